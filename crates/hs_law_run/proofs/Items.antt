-- What each pass takes of a queue at least: what the rounds so far have put there, or 64 items.
use Rattle.std.proofs.Common.{◌≡◌, ℕ, zero, suc, ◌+◌, ◌-◌, ◌<◌, ◌≤◌, min, Bool, true, false, cond, List, [], ◌∷◌, ◌++◌, length, refl, ap, subst, ◌∙◌, Option, Some, None, arith, map, filter, zip, slice_get, replicate, count_by, eq-eqb}
use Rattle.hs_law_run.proofs.Prelude.{ends_at, AllByRecursion, flat_map, range_with_len, same_Some, one_if, count_cons, count_append, ClientId, TraceId, MAX_TAKEN, MIN_SIZE, Draw, Step, Operation, PlainWorkload, NumberedOperation, numbered_from, open_behind, DrawnPage, has_buffer, drawn_from, IsTimely, Sent, ClientSends, sheet_of, sent_chunks, sent_within, operations_at, place_of, TimedPage, timed_pages, Sheet, Queue, Chunks, Crumbs, Triggers, Asks, takes, taken, asks_to, NodeRun, followed, IsLaidOut, Known, Machine, done_at, takes_from, takes_of, takes_all, pass_steps}
use Rattle.hs_base.proofs.Places.{zipped_at}
use Rattle.hs_base.specs.declared.settings.AutoRule.{AutoRule}
use Rattle.hs_base.specs.declared.told.Crumb.{Crumb}
use Rattle.hs_base.specs.declared.told.Trigger.{Trigger}
use Rattle.hs_records.specs.declared.journal.Step.TheVariants as steps
use Rattle.hs_client.specs.Sending.{crumb_in, trigger_in, triggers_behind}
use Rattle.hs_law_run.proofs.Takes.{gives}

-- ---- counts

module _ {X : Type 0} where
  count_all : (p : X → Bool) (n : ℕ) (x : X) → p x ≡ true → count_by p (replicate n x) ≡ n
  count_all p zero x h = refl
  count_all p (suc n) x h =
      let first = count_cons p x (replicate n x) in
      let here = ap one_if h in
      let rest = count_all p n x h in
      omega (arith, first, here, rest)

  count_part : {Y : Type 0} (p : X → Bool) (f : Y → List X) (ys : List Y) (i : ℕ) (y : Y) → slice_get ys i ≡ Some y → count_by p (f y) ≤ count_by p (flat_map f ys)
  count_part p f [] i y h = let no : None ≡ Some y = h in absurd cc
  count_part p f (z ∷ ys) zero y h =
      let both = count_append p (f z) (flat_map f ys) in
      let same = ap (λ y. count_by p (f y)) (same_Some z y h) in
      omega (arith, both, same)
  count_part p f (z ∷ ys) (suc i) y h =
      let both = count_append p (f z) (flat_map f ys) in
      let rest = count_part p f ys i y h in
      omega (arith, both, rest)

module _ (queue : Queue) where
  pub taken_both : (a b : List Step) → taken queue (a ++ b) ≡ taken queue a + taken queue b
  taken_both a b = count_append (takes queue) a b

-- ---- items and operations

abbrev pub IsWithin : {A : Type 0} → ℕ → List (Sent A) → Type 0
IsWithin n items = AllByRecursion (λ item. item.number < n) items

within_more : {A : Type 0} (a b : ℕ) (items : List (Sent A)) → a ≤ b → IsWithin a items → IsWithin b items
within_more a b [] low all = tt
within_more a b (item ∷ items) low all = let first = all.0 in (omega (arith, first, low), within_more a b items low all.1)

within_both : {A : Type 0} (n : ℕ) (xs ys : List (Sent A)) → IsWithin n xs → IsWithin n ys → IsWithin n (xs ++ ys)
within_both n [] ys a b = b
within_both n (x ∷ xs) ys a b = (a.0, within_both n xs ys a.1 b)

within_here : {A : Type 0} (number n : ℕ) (items : List A) → number < n → IsWithin n (map (λ item. record { number = number; item = item }) items)
within_here number n [] low = tt
within_here number n (item ∷ items) low = (low, within_here number n items low)

pub crumbs_within : (number : ℕ) (trace : Option TraceId) (ops : List Operation)
    → IsWithin (number + length ops) (flat_map (λ (op : NumberedOperation). map (λ (crumb : Crumb). record { number = op.number; item = crumb }) (crumb_in op.trace op.operation)) (numbered_from number trace ops))
crumbs_within number trace [] = tt
crumbs_within number trace (op ∷ ops) =
    let here : number < number + suc (length ops) = omega arith in
    let same : number + 1 + length ops ≤ number + suc (length ops) = omega arith in
    within_both (number + suc (length ops)) (map (λ (crumb : Crumb). record { number = number; item = crumb }) (crumb_in trace op)) _ (within_here number (number + suc (length ops)) (crumb_in trace op) here)
    (within_more (number + 1 + length ops) (number + suc (length ops)) _ same (crumbs_within (number + 1) (open_behind trace op) ops))

pub triggers_within : (autos : List AutoRule) (earlier : List NumberedOperation) (number : ℕ) (trace : Option TraceId) (ops : List Operation) → IsWithin (number + length ops) (triggers_behind autos earlier (numbered_from number trace ops))
triggers_within autos earlier number trace [] = tt
triggers_within autos earlier number trace (op ∷ ops) =
    let here : number < number + suc (length ops) = omega arith in
    let same : number + 1 + length ops ≤ number + suc (length ops) = omega arith in
    let first : NumberedOperation = record { number = number; trace = trace; operation = op } in
    within_both (number + suc (length ops)) (map (λ (trigger : Trigger). record { number = number; item = trigger }) (trigger_in autos earlier trace op)) (triggers_behind autos (first ∷ earlier) (numbered_from (number + 1) (open_behind trace op) ops))
    (within_here number (number + suc (length ops)) (trigger_in autos earlier trace op) here)
    (within_more (number + 1 + length ops) (number + suc (length ops)) (triggers_behind autos (first ∷ earlier) (numbered_from (number + 1) (open_behind trace op) ops)) same (triggers_within autos (first ∷ earlier) (number + 1) (open_behind trace op) ops))

-- ---- pages and operations

pub record InTime (to : ℕ) (page : TimedPage) : Type 0 where
  pub first : page.started ≤ page.sent
  pub last : page.sent < to

pub in_time : (from to : ℕ) (pages : List TimedPage) (j : ℕ) (page : TimedPage) → IsTimely from to pages → slice_get pages j ≡ Some page → InTime to page
in_time from to [] j page h at = let no : None ≡ Some page = at in absurd cc
in_time from to (first ∷ pages) zero page h at = subst (InTime to) (same_Some first page at) (record { first = h.1; last = h.2 })
in_time from to (first ∷ pages) (suc j) page h at = in_time first.sent to pages j page h.3 at

-- what holds of the pages of a list holds of its drawn pages
pub drawn_all : (P : ℕ → Type 0) (client : ClientId) (k : ℕ) (pages : List TimedPage) (draws : List Draw) → ((j : ℕ) (page : TimedPage) → slice_get pages j ≡ Some page → P page.sent) → AllByRecursion (λ (d : DrawnPage). P d.sent) (drawn_from client k pages draws)
drawn_all P client k [] draws each = tt
drawn_all P client k (page ∷ pages) [] each = tt
drawn_all P client k (page ∷ pages) (draw ∷ draws) each = (each 0 page refl, drawn_all P client (k + 1) pages draws (λ j p h. each (suc j) p h))

abbrev item_of : DrawnPage → Sent Sheet
item_of d = record { number = d.sent; item = sheet_of d }

chunks_case : (P : ℕ → Type 0) (d : DrawnPage) (kept : List DrawnPage) (b : Bool) → P d.sent → AllByRecursion (λ (item : Sent Sheet). P item.number) (map item_of kept) → AllByRecursion (λ (item : Sent Sheet). P item.number) (map item_of (cond b (d ∷ kept) kept))
chunks_case P d kept true h all = (h, all)
chunks_case P d kept false h all = all

pub chunks_all : (P : ℕ → Type 0) (drawn : List DrawnPage) → AllByRecursion (λ (d : DrawnPage). P d.sent) drawn → AllByRecursion (λ (item : Sent Sheet). P item.number) (sent_chunks drawn)
chunks_all P [] all = tt
chunks_all P (d ∷ drawn) all = chunks_case P d (filter (λ (d : DrawnPage). has_buffer d.draw) drawn) (has_buffer d.draw) all.0 (chunks_all P drawn all.1)

-- ---- what a pass takes at least

module _ (W : PlainWorkload) (m : Machine) (node : NodeRun) (client : ℕ) (s : ClientSends) (there : slice_get node.sends client ≡ Some s) (stamps : List ℕ) where
  abbrev done : ℕ
  done = done_at m (place_of W.settings.clients node.node client)

  abbrev pass : List Step
  pass = pass_steps W m (followed W m.journal) node ++ gives stamps

  block_taken : (queue : Queue) → taken queue (takes_of node client s done) ≤ taken queue pass
  block_taken queue =
      let zeroth : 0 + client ≡ client = omega arith in
      let pairs = zip (range_with_len 0 (length node.sends)) node.sends in
      let part =
      count_part (takes queue) (λ (c : ℕ × ClientSends). takes_of node c.0 c.1 (done_at m (place_of W.settings.clients node.node c.0))) pairs client (client, s)
      (zipped_at 0 node.sends client s there ∙ ap (λ (n : ℕ). Some (n, s)) zeroth)
      in
      let asks = takes_from node Asks steps.Ask (length (asks_to node.node (followed W m.journal).heard)) in
      let a = count_append (takes queue) (takes_all W m node) asks in
      let b = count_append (takes queue) (takes_all W m node ++ asks) (steps.Turn ∷ []) in
      let c = count_append (takes queue) (pass_steps W m (followed W m.journal) node) (gives stamps) in
      omega (arith, part, a, b, c)

  abbrev chunks_part : List Step
  chunks_part = takes_from node (Chunks client) (steps.Chunk client) (length (sent_within done s.chunks))

  abbrev crumbs_part : List Step
  crumbs_part = takes_from node (Crumbs client) (steps.Crumb client) (length (sent_within done s.crumbs))

  abbrev triggers_part : List Step
  triggers_part = takes_from node (Triggers client) (steps.Trigger client) (length (sent_within done s.triggers))

  three : (queue : Queue) → taken queue (takes_of node client s done) ≡ taken queue chunks_part + taken queue crumbs_part + taken queue triggers_part
  three queue =
      let whole = count_append (takes queue) (chunks_part ++ crumbs_part) triggers_part in
      let front = count_append (takes queue) chunks_part crumbs_part in
      omega (arith, whole, front)

  pub chunks_taken : min (length (sent_within done s.chunks) - taken (Chunks client) node.state.log) MAX_TAKEN ≤ taken (Chunks client) pass
  chunks_taken =
      let block = block_taken (Chunks client) in
      let parts = three (Chunks client) in
      let own = count_all (takes (Chunks client)) (min (length (sent_within done s.chunks) - taken (Chunks client) node.state.log) MAX_TAKEN) (steps.Chunk client) (eq-eqb client client refl) in
      omega (arith, block, parts, own)

  pub crumbs_taken : min (length (sent_within done s.crumbs) - taken (Crumbs client) node.state.log) MAX_TAKEN ≤ taken (Crumbs client) pass
  crumbs_taken =
      let block = block_taken (Crumbs client) in
      let parts = three (Crumbs client) in
      let own = count_all (takes (Crumbs client)) (min (length (sent_within done s.crumbs) - taken (Crumbs client) node.state.log) MAX_TAKEN) (steps.Crumb client) (eq-eqb client client refl) in
      omega (arith, block, parts, own)

  pub triggers_taken : min (length (sent_within done s.triggers) - taken (Triggers client) node.state.log) MAX_TAKEN ≤ taken (Triggers client) pass
  triggers_taken =
      let block = block_taken (Triggers client) in
      let parts = three (Triggers client) in
      let own = count_all (takes (Triggers client)) (min (length (sent_within done s.triggers) - taken (Triggers client) node.state.log) MAX_TAKEN) (steps.Trigger client) (eq-eqb client client refl) in
      omega (arith, block, parts, own)

module _ (W : PlainWorkload) (m : Machine) (node : NodeRun) (stamps : List ℕ) where
  pub asks_taken : min (length (asks_to node.node (followed W m.journal).heard) - taken Asks node.state.log) MAX_TAKEN ≤ taken Asks (pass_steps W m (followed W m.journal) node ++ gives stamps)
  asks_taken =
      let asks = takes_from node Asks steps.Ask (length (asks_to node.node (followed W m.journal).heard)) in
      let a = count_append (takes Asks) (takes_all W m node) asks in
      let b = count_append (takes Asks) (takes_all W m node ++ asks) (steps.Turn ∷ []) in
      let c = count_append (takes Asks) (pass_steps W m (followed W m.journal) node) (gives stamps) in
      let own = count_all (takes Asks) (min (length (asks_to node.node (followed W m.journal).heard) - taken Asks node.state.log) MAX_TAKEN) steps.Ask refl in
      omega (arith, a, b, c, own)

-- ---- through the schedule

module _ (k : Known) (W : PlainWorkload) (laid : IsLaidOut W) (least : MIN_SIZE ≤ W.settings.size) where
  abbrev pub pages_at : ℕ → List TimedPage
  pages_at place = timed_pages W.settings.size (operations_at W place)

  pub timely_at : (place : ℕ) → IsTimely 0 (length (operations_at W place)) (pages_at place)
  timely_at place = k.timely W.settings.size (operations_at W place) least (ends_at W.clients place laid.ends)
