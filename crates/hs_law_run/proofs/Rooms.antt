-- What a pass takes is there to take: of each queue at most what is sent and was not taken before, and of each node's messages at
-- most those that were said and not heard.
use Rattle.std.proofs.Common.{◌≡◌, ℕ, zero, suc, ◌+◌, ◌-◌, ◌<◌, ◌≤◌, min, Bool, true, false, cond, List, [], ◌∷◌, ◌++◌, length, replicate, refl, ap, ◌∙◌, Option, Some, None, arith, map, zip, slice_get, count_by, eqb, eqb-true}
use Rattle.hs_law_run.proofs.Prelude.{flat_map, range_with_len, option_map_or, one_if, count_cons, count_append, filter_few, NodeId, MAX_TAKEN, Step, PlainWorkload, ClientSends, place_of, sent_within, Queue, Chunks, Crumbs, Triggers, Asks, takes, taken, asks_to, is_from, NodeRun, Run, sent_to, supply, said_at, Machine, takes_from, takes_of, takes_all, pass_steps, told_of, done_at}
use Rattle.hs_records.specs.declared.journal.Step.TheVariants as steps
use Rattle.hs_law_run.proofs.Walks.{is_node}

module _ {X : Type 0} where
  count_replicate : (p : X → Bool) (n : ℕ) (x : X) (b : Bool) → p x ≡ b → count_by p (replicate n x) ≤ cond b n 0
  count_replicate p zero x true h = omega arith
  count_replicate p zero x false h = omega arith
  count_replicate p (suc n) x true h =
      let first = count_cons p x (replicate n x) in
      let here = ap one_if h in
      let rest = count_replicate p n x true h in
      omega (arith, first, here, rest)
  count_replicate p (suc n) x false h =
      let first = count_cons p x (replicate n x) in
      let here = ap one_if h in
      let rest = count_replicate p n x false h in
      omega (arith, first, here, rest)

-- ---- sums over numbered items

-- the weights of the items of the wanted number
abbrev pub weigh : {X : Type 0} → (X → ℕ) → (X → ℕ) → ℕ → List X → ℕ
weigh number weight wanted [] = 0
weigh number weight wanted (x ∷ xs) = cond (eqb (number x) wanted) (weight x) 0 + weigh number weight wanted xs

module _ {X : Type 0} (number weight : X → ℕ) (wanted : ℕ) where
  light : (x : X) (b : Bool) → eqb (number x) wanted ≡ b → wanted < number x → cond b (weight x) 0 ≡ 0
  light x true e h = let same = eqb-true (number x) wanted e in absurd (omega (arith, same, h))
  light x false e h = refl

  weigh_none : (start : ℕ) (xs : List X) → map number xs ≡ range_with_len start (length xs) → wanted < start → weigh number weight wanted xs ≡ 0
  weigh_none start [] h low = refl
  weigh_none start (x ∷ xs) h low =
      let head : number x ≡ start = cc in
      let tail : map number xs ≡ range_with_len (start + 1) (length xs) = cc in
      let here = light x (eqb (number x) wanted) refl (omega (arith, head, low)) in
      let rest = weigh_none (start + 1) xs tail (omega (arith, low)) in
      omega (arith, here, rest)

  at_most : (x : X) (b : Bool) → cond b (weight x) 0 ≤ weight x
  at_most x true = omega arith
  at_most x false = omega arith

  pub weigh_at : (start i : ℕ) (xs : List X) → map number xs ≡ range_with_len start (length xs) → wanted ≡ start + i → weigh number weight wanted xs ≤ option_map_or weight (slice_get xs i) 0
  weigh_at start i [] h e = omega arith
  weigh_at start zero (x ∷ xs) h e =
      let tail : map number xs ≡ range_with_len (start + 1) (length xs) = cc in
      let here = at_most x (eqb (number x) wanted) in
      let rest = weigh_none (start + 1) xs tail (omega (arith, e)) in
      omega (arith, here, rest)
  weigh_at start (suc i) (x ∷ xs) h e =
      let head : number x ≡ start = cc in
      let tail : map number xs ≡ range_with_len (start + 1) (length xs) = cc in
      let here : cond (eqb (number x) wanted) (weight x) 0 ≡ 0 = past x (eqb (number x) wanted) refl (omega (arith, head, e)) in
      let rest = weigh_at (start + 1) i xs tail (omega (arith, e)) in
      omega (arith, here, rest)
    where
      past : (x : X) (b : Bool) → eqb (number x) wanted ≡ b → number x < wanted → cond b (weight x) 0 ≡ 0
      past x true e h = let same = eqb-true (number x) wanted e in absurd (omega (arith, same, h))
      past x false e h = refl

-- ---- the clients of a node

-- whether a queue is one of the client of this number
abbrev own : Queue → ℕ → Bool
own (Chunks client) i = eqb i client
own (Crumbs client) i = eqb i client
own (Triggers client) i = eqb i client
own Asks i = false

module _ (node : NodeRun) where
  abbrev room : Queue → ClientSends → ℕ
  room queue sends = sent_to queue sends - taken queue node.state.log

  block : (queue other : Queue) (step : Step) (sent : ℕ) (b : Bool) → takes queue step ≡ b → (b ≡ true → other ≡ queue) → (all : ℕ) → sent ≤ all
      → taken queue (takes_from node other step sent) ≤ cond b (all - taken queue node.state.log) 0
  block queue other step sent true e same all few =
      let most = count_replicate (takes queue) (min (sent - taken other node.state.log) MAX_TAKEN) step true e in
      let equal : taken other node.state.log ≡ taken queue node.state.log = ap (λ (q : Queue). taken q node.state.log) (same refl) in
      omega (arith, most, equal, few)
  block queue other step sent false e same all few = count_replicate (takes queue) (min (sent - taken other node.state.log) MAX_TAKEN) step false e

  three : (queue : Queue) (a b c : List Step) → taken queue (a ++ b ++ c) ≡ taken queue a + taken queue b + taken queue c
  three queue a b c =
      let whole = count_append (takes queue) (a ++ b) c in
      let front = count_append (takes queue) a b in
      omega (arith, whole, front)

  client_le : (queue : Queue) (i : ℕ) (sends : ClientSends) (done : ℕ) → taken queue (takes_of node i sends done) ≤ cond (own queue i) (room queue sends) 0
  client_le (Chunks client) i sends done =
      let all =
      three (Chunks client) (takes_from node (Chunks i) (steps.Chunk i) (length (sent_within done sends.chunks)))
      (takes_from node (Crumbs i) (steps.Crumb i) (length (sent_within done sends.crumbs))) (takes_from node (Triggers i) (steps.Trigger i) (length (sent_within done sends.triggers)))
      in
      let a =
      block (Chunks client) (Chunks i) (steps.Chunk i) (length (sent_within done sends.chunks)) (eqb i client) refl (λ e. ap Chunks (eqb-true i client e)) (length sends.chunks)
      (filter_few _ sends.chunks)
      in
      let b = block (Chunks client) (Crumbs i) (steps.Crumb i) (length (sent_within done sends.crumbs)) false refl (λ e. let no : false ≡ true = e in absurd cc) (length sends.crumbs) (filter_few _ sends.crumbs) in
      let c =
      block (Chunks client) (Triggers i) (steps.Trigger i) (length (sent_within done sends.triggers)) false refl (λ e. let no : false ≡ true = e in absurd cc) (length sends.triggers)
      (filter_few _ sends.triggers)
      in
      omega (arith, all, a, b, c)
  client_le (Crumbs client) i sends done =
      let all =
      three (Crumbs client) (takes_from node (Chunks i) (steps.Chunk i) (length (sent_within done sends.chunks)))
      (takes_from node (Crumbs i) (steps.Crumb i) (length (sent_within done sends.crumbs))) (takes_from node (Triggers i) (steps.Trigger i) (length (sent_within done sends.triggers)))
      in
      let a = block (Crumbs client) (Chunks i) (steps.Chunk i) (length (sent_within done sends.chunks)) false refl (λ e. let no : false ≡ true = e in absurd cc) (length sends.chunks) (filter_few _ sends.chunks) in
      let b =
      block (Crumbs client) (Crumbs i) (steps.Crumb i) (length (sent_within done sends.crumbs)) (eqb i client) refl (λ e. ap Crumbs (eqb-true i client e)) (length sends.crumbs)
      (filter_few _ sends.crumbs)
      in
      let c =
      block (Crumbs client) (Triggers i) (steps.Trigger i) (length (sent_within done sends.triggers)) false refl (λ e. let no : false ≡ true = e in absurd cc) (length sends.triggers)
      (filter_few _ sends.triggers)
      in
      omega (arith, all, a, b, c)
  client_le (Triggers client) i sends done =
      let all =
      three (Triggers client) (takes_from node (Chunks i) (steps.Chunk i) (length (sent_within done sends.chunks)))
      (takes_from node (Crumbs i) (steps.Crumb i) (length (sent_within done sends.crumbs))) (takes_from node (Triggers i) (steps.Trigger i) (length (sent_within done sends.triggers)))
      in
      let a = block (Triggers client) (Chunks i) (steps.Chunk i) (length (sent_within done sends.chunks)) false refl (λ e. let no : false ≡ true = e in absurd cc) (length sends.chunks) (filter_few _ sends.chunks) in
      let b = block (Triggers client) (Crumbs i) (steps.Crumb i) (length (sent_within done sends.crumbs)) false refl (λ e. let no : false ≡ true = e in absurd cc) (length sends.crumbs) (filter_few _ sends.crumbs) in
      let c =
      block (Triggers client) (Triggers i) (steps.Trigger i) (length (sent_within done sends.triggers)) (eqb i client) refl (λ e. ap Triggers (eqb-true i client e)) (length sends.triggers)
      (filter_few _ sends.triggers)
      in
      omega (arith, all, a, b, c)
  client_le Asks i sends done =
      let all =
      three Asks (takes_from node (Chunks i) (steps.Chunk i) (length (sent_within done sends.chunks))) (takes_from node (Crumbs i) (steps.Crumb i) (length (sent_within done sends.crumbs)))
      (takes_from node (Triggers i) (steps.Trigger i) (length (sent_within done sends.triggers)))
      in
      let a = block Asks (Chunks i) (steps.Chunk i) (length (sent_within done sends.chunks)) false refl (λ e. let no : false ≡ true = e in absurd cc) (length sends.chunks) (filter_few _ sends.chunks) in
      let b = block Asks (Crumbs i) (steps.Crumb i) (length (sent_within done sends.crumbs)) false refl (λ e. let no : false ≡ true = e in absurd cc) (length sends.crumbs) (filter_few _ sends.crumbs) in
      let c =
      block Asks (Triggers i) (steps.Trigger i) (length (sent_within done sends.triggers)) false refl (λ e. let no : false ≡ true = e in absurd cc) (length sends.triggers) (filter_few _ sends.triggers)
      in
      omega (arith, all, a, b, c)

  abbrev Pair : Type 0
  Pair = ℕ × ClientSends

  module _ (done : ℕ → ℕ) where
    abbrev pair_takes : Pair → List Step
    pair_takes c = takes_of node c.0 c.1 (done c.0)

    abbrev weighed : Queue → List Pair → ℕ
    weighed queue [] = 0
    weighed queue (c ∷ pairs) = cond (own queue c.0) (room queue c.1) 0 + weighed queue pairs

    pairs_le : (queue : Queue) (pairs : List Pair) → taken queue (flat_map pair_takes pairs) ≤ weighed queue pairs
    pairs_le queue [] = omega arith
    pairs_le queue (c ∷ pairs) =
        let whole = count_append (takes queue) (pair_takes c) (flat_map pair_takes pairs) in
        let first = client_le queue c.0 c.1 (done c.0) in
        let rest = pairs_le queue pairs in
        omega (arith, whole, first, rest)

    -- for a queue of a client the weights are those of that client
    own_weighed : (queue : Queue) (client : ℕ) → ((i : ℕ) → own queue i ≡ eqb i client) → (pairs : List Pair) → weighed queue pairs ≡ weigh (λ (c : Pair). c.0) (λ (c : Pair). room queue c.1) client pairs
    own_weighed queue client is [] = refl
    own_weighed queue client is (c ∷ pairs) =
        ap (λ b. cond b (room queue c.1) 0 + weighed queue pairs) (is c.0)
        ∙ ap (λ (n : ℕ). cond (eqb c.0 client) (room queue c.1) 0 + n) (own_weighed queue client is pairs)

    none_weighed : (pairs : List Pair) → weighed Asks pairs ≡ 0
    none_weighed [] = refl
    none_weighed (c ∷ pairs) = let rest = none_weighed pairs in omega (arith, rest)

    numbered : (start : ℕ) (sends : List ClientSends) → map (λ (c : Pair). c.0) (zip (range_with_len start (length sends)) sends) ≡ range_with_len start (length (zip (range_with_len start (length sends)) sends))
    numbered start [] = refl
    numbered start (s ∷ sends) = ap (λ rest. start ∷ rest) (numbered (start + 1) sends)

    paired : (queue : Queue) (start i : ℕ) (sends : List ClientSends) → option_map_or (λ (c : Pair). room queue c.1) (slice_get (zip (range_with_len start (length sends)) sends) i) 0
        ≡ option_map_or (sent_to queue) (slice_get sends i) 0 - taken queue node.state.log
    paired queue start i [] = omega arith
    paired queue start zero (s ∷ sends) = refl
    paired queue start (suc i) (s ∷ sends) = paired queue (start + 1) i sends

    client_queue : (queue : Queue) (client : ℕ) → ((i : ℕ) → own queue i ≡ eqb i client) → taken queue (flat_map pair_takes (zip (range_with_len 0 (length node.sends)) node.sends))
        ≤ option_map_or (sent_to queue) (slice_get node.sends client) 0 - taken queue node.state.log
    client_queue queue client is =
        let pairs = zip (range_with_len 0 (length node.sends)) node.sends in
        let most = pairs_le queue pairs in
        let same = own_weighed queue client is pairs in
        let at = weigh_at (λ (c : Pair). c.0) (λ (c : Pair). room queue c.1) client 0 client pairs (numbered 0 node.sends) (omega arith) in
        let there = paired queue 0 client node.sends in
        omega (arith, most, same, at, there)

  asks_block : (queue : Queue) (b : Bool) → takes queue steps.Ask ≡ b → (n : ℕ) → taken queue (takes_from node Asks steps.Ask n) ≤ cond b (n - taken Asks node.state.log) 0
  asks_block queue true e n =
      let most = count_replicate (takes queue) (min (n - taken Asks node.state.log) MAX_TAKEN) steps.Ask true e in omega (arith, most)
  asks_block queue false e n = count_replicate (takes queue) (min (n - taken Asks node.state.log) MAX_TAKEN) steps.Ask false e

module _ (W : PlainWorkload) (m : Machine) (run : Run) (node : NodeRun) where
  abbrev done_of : ℕ → ℕ
  done_of number = done_at m (place_of W.settings.clients node.node number)

  abbrev clients_part : List Step
  clients_part = takes_all W m node

  abbrev asks_part : List Step
  asks_part = takes_from node Asks steps.Ask (length (asks_to node.node run.heard))

  parts : (queue : Queue) → taken queue (pass_steps W m run node) ≡ taken queue clients_part + taken queue asks_part + taken queue (steps.Turn ∷ [])
  parts queue =
      let whole : taken queue (pass_steps W m run node) ≡ taken queue (clients_part ++ asks_part) + taken queue (steps.Turn ∷ []) = count_append (takes queue) (clients_part ++ asks_part) (steps.Turn ∷ []) in
      let both = count_append (takes queue) clients_part asks_part in
      omega (arith, whole, both)

  -- a pass takes no more than is there beside what was taken
  pub pass_fits : (queue : Queue) → taken queue node.state.log ≤ supply node run.heard queue → taken queue node.state.log + taken queue (pass_steps W m run node) ≤ supply node run.heard queue
  pass_fits (Chunks client) few =
      let all = parts (Chunks client) in
      let most = client_queue node done_of (Chunks client) client (λ i. refl) in
      let asks = asks_block node (Chunks client) false refl (length (asks_to node.node run.heard)) in
      let turn : taken (Chunks client) (steps.Turn ∷ []) ≡ 0 = refl in
      omega (arith, all, most, asks, turn, few)
  pass_fits (Crumbs client) few =
      let all = parts (Crumbs client) in
      let most = client_queue node done_of (Crumbs client) client (λ i. refl) in
      let asks = asks_block node (Crumbs client) false refl (length (asks_to node.node run.heard)) in
      let turn : taken (Crumbs client) (steps.Turn ∷ []) ≡ 0 = refl in
      omega (arith, all, most, asks, turn, few)
  pass_fits (Triggers client) few =
      let all = parts (Triggers client) in
      let most = client_queue node done_of (Triggers client) client (λ i. refl) in
      let asks = asks_block node (Triggers client) false refl (length (asks_to node.node run.heard)) in
      let turn : taken (Triggers client) (steps.Turn ∷ []) ≡ 0 = refl in
      omega (arith, all, most, asks, turn, few)
  pass_fits Asks few =
      let all = parts Asks in
      let most = pairs_le node done_of Asks (zip (range_with_len 0 (length node.sends)) node.sends) in
      let none = none_weighed node done_of (zip (range_with_len 0 (length node.sends)) node.sends) in
      let asks = asks_block node Asks true refl (length (asks_to node.node run.heard)) in
      let turn : taken Asks (steps.Turn ∷ []) ≡ 0 = refl in
      omega (arith, all, most, none, asks, turn, few)

-- ---- messages

module _ (run : Run) (wanted : NodeId) where
  abbrev unheard : NodeRun → ℕ
  unheard node = length node.state.said - count_by (is_from wanted) run.heard

  told_le : (node : NodeRun) (b : Bool) → eqb node.node wanted.0 ≡ b → count_by (is_node wanted) (told_of run node) ≤ cond b (unheard node) 0
  told_le node true e =
      let heard = count_by (is_from (record { 0 = node.node })) run.heard in
      let most = count_replicate (is_node wanted) (min (length node.state.said - heard) MAX_TAKEN) (record { 0 = node.node }) true e in
      let same : heard ≡ count_by (is_from wanted) run.heard = ap (λ (n : ℕ). count_by (is_from (record { 0 = n })) run.heard) (eqb-true node.node wanted.0 e) in
      omega (arith, most, same)
  told_le node false e =
      count_replicate (is_node wanted) (min (length node.state.said - count_by (is_from (record { 0 = node.node })) run.heard) MAX_TAKEN) (record { 0 = node.node }) false e

  all_told : (nodes : List NodeRun) → count_by (is_node wanted) (flat_map (told_of run) nodes) ≤ weigh (λ (n : NodeRun). n.node) unheard wanted.0 nodes
  all_told [] = omega arith
  all_told (node ∷ nodes) =
      let whole = count_append (is_node wanted) (told_of run node) (flat_map (told_of run) nodes) in
      let first = told_le node (eqb node.node wanted.0) refl in
      let rest = all_told nodes in
      omega (arith, whole, first, rest)

  said_is : (o : Option NodeRun) → option_map_or unheard o 0 ≡ option_map_or (λ (n : NodeRun). length n.state.said) o 0 - count_by (is_from wanted) run.heard
  said_is None = omega arith
  said_is (Some node) = refl

  -- the coordinator hears no more than was said beside what it heard
  pub told_fits : map (λ (n : NodeRun). n.node) run.nodes ≡ range_with_len 0 (length run.nodes) → count_by (is_from wanted) run.heard ≤ said_at run.nodes wanted
      → count_by (is_from wanted) run.heard + count_by (is_node wanted) (flat_map (told_of run) run.nodes) ≤ said_at run.nodes wanted
  told_fits numbers few =
      let most = all_told run.nodes in
      let at = weigh_at (λ (n : NodeRun). n.node) unheard wanted.0 0 wanted.0 run.nodes numbers (omega arith) in
      let there = said_is (slice_get run.nodes wanted.0) in
      omega (arith, most, at, there, few)
