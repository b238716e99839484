-- Closing ends: each pass that finds something to do works something off, and there is only so much. So nothing is left over.
use Rattle.std.proofs.Common.{◌≡◌, ◌⊎◌, inl, inr, ℕ, zero, suc, ◌+◌, ◌-◌, ◌*◌, ◌/◌, ◌<◌, ◌≤◌, min, Bool, true, false, cond, List, [], ◌∷◌, ◌++◌, length, refl, sym, ap, subst, ◌∙◌, Option, Some, None, arith, map, fold, option_map, slice_get, unwrap_or, count_by, eq-eqb, ltb, lt-ltb, ltb-true}
use Rattle.hs_law_run.proofs.Prelude.{ends_at, drawn_few, HaveWeights, AllByRecursion, range_with_len, option_map_or, both_true, suc-mul, and_parts, length-map, length-range_with_len, mul-add-lt, slice_get-map, slice_get_within, same_Some, all_by_place, all_each, all_at, count_append, list_all_from, range_at, ClientId, MIN_SIZE, MAX_TAKEN, Message, Step, pages_of, PlainWorkload, Sent, ClientSends, sent_within, client_sends, node_sends, operations_at, draws_at, place_of, TimedPage, timed_pages, is_bare, rounds_of, Queue, Chunks, Crumbs, Triggers, Asks, takes, taken, asks_to, is_from, NodeRun, Run, node_start, run_start, followed, node_behind, run_behind, played, sent_to, supply, IsLaidOut, ScheduleIsBare, Known, Machine, machine_start, done_at, draws_in, pages_started, client_goes, pass_steps, passes, rounds, closing, closing_limit, lockstep, sum_to, sum_le, sum_lt, admitted_at, is_known, Speaks, get_there, IsReached, clients_go, round}
use Rattle.std.specs.Prelude.{sum_by}
use Rattle.std.proofs.lemmas.List.Sums.{sum_by-cons}
use Rattle.hs_law_journal.specs.Ends.{took_all, is_left_bare}
use Rattle.hs_law_run.specs.Reaching as reaching
use Rattle.hs_law_run.proofs.ExtendedLists.{zipped_all}
use Rattle.hs_law_run.proofs.FewAsks.{asks_few, IsNumbered}
use Rattle.hs_law_run.proofs.Followed.{number_is, count_nodes, fits, draws_are, starts_at}
use Rattle.hs_law_journal.proofs.Groups.{triggers_in}
use Rattle.hs_law_run.proofs.Items.{IsWithin, timely_at, crumbs_within, triggers_within, chunks_all, drawn_all, in_time, chunks_taken, crumbs_taken, triggers_taken, asks_taken}
use Rattle.hs_law_run.proofs.Takes.{gives}
use Rattle.hs_law_run.proofs.Progress.{IsWorked, pass_works, spoken}
use Rattle.hs_law_run.proofs.Hears.{more, heard_more, heard_now}
use Rattle.hs_law_run.proofs.PassFrom.{PassFrom, pass_from}
use Rattle.hs_law_run.proofs.Shapes.{all_covered, begins, rounds_go}
use Rattle.hs_law_run.proofs.Standing as standing
use Rattle.hs_law_run.proofs.Standing.{kept}
use Rattle.hs_law_run.proofs.Keeping.{own_sends, Keeps}
use Rattle.hs_law_run.proofs.Working.{of_client, work, load}
use Rattle.hs_law_journal.proofs.FewSent.{sends_few, chunks_few}

-- ---- sums

pub sum_both : (f g : ℕ → ℕ) (n : ℕ) → sum_to (λ i. f i + g i) n ≡ sum_to f n + sum_to g n
sum_both f g zero = refl
sum_both f g (suc n) = let rest = sum_both f g n in omega (arith, rest)

pub sum_const : (c n : ℕ) → sum_to (λ i. c) n ≡ n * c
sum_const c zero = omega arith
sum_const c (suc n) = let rest = sum_const c n in let product = suc-mul n c in omega (arith, rest, product)

sum_split : (f : ℕ → ℕ) (a b : ℕ) → sum_to f (a + b) ≡ sum_to f a + sum_to (λ i. f (a + i)) b
sum_split f a zero = let same : a + 0 ≡ a = omega arith in ap (sum_to f) same ∙ plus_none (sum_to f a)
  where
    plus_none : (n : ℕ) → n ≡ n + 0
    plus_none n = omega arith
sum_split f a (suc b) =
    let same : a + suc b ≡ suc (a + b) = omega arith in
    let whole = ap (sum_to f) same in
    let rest = sum_split f a b in
    omega (arith, whole, rest)

-- row by row
sum_rows : (f : ℕ → ℕ) (each rows : ℕ) → sum_to (λ i. sum_to (λ c. f (i * each + c)) each) rows ≡ sum_to f (rows * each)
sum_rows f each zero = let none : 0 * each ≡ 0 = omega arith in sym (ap (sum_to f) none)
sum_rows f each (suc rows) =
    let product = suc-mul rows each in
    let whole = ap (sum_to f) product in
    let split = sum_split f (rows * each) each in
    let rest = sum_rows f each rows in
    omega (arith, whole, split, rest)

sum_list : {X : Type 0} (f : X → ℕ) (d : X) (front xs : List X) → sum_to (λ p. f (unwrap_or (slice_get xs p) d)) (length xs) ≡ sum_by f xs
sum_list f d front [] = refl
sum_list {X = X} f d front (x ∷ xs) =
    let first = sum_by-cons f x xs in
    let rest = sum_list f d front xs in
    let split = sum_split (λ p. f (unwrap_or (slice_get (x ∷ xs) p) d)) 1 (length xs) in
    let same : suc (length xs) ≡ 1 + length xs = omega arith in
    let whole = ap (sum_to (λ p. f (unwrap_or (slice_get (x ∷ xs) p) d))) same in
    let later = sum_le (λ i. f (unwrap_or (slice_get (x ∷ xs) (1 + i)) d)) (λ i. f (unwrap_or (slice_get xs i) d)) (length xs) (λ i low. shift i) in
    let sooner = sum_le (λ i. f (unwrap_or (slice_get xs i) d)) (λ i. f (unwrap_or (slice_get (x ∷ xs) (1 + i)) d)) (length xs) (λ i low. unshift i) in
    omega (arith, first, rest, split, whole, later, sooner)
  where
    moved : (i : ℕ) → f (unwrap_or (slice_get (x ∷ xs) (1 + i)) d) ≡ f (unwrap_or (slice_get xs i) d)
    moved i = let same : 1 + i ≡ suc i = omega arith in ap (λ (n : ℕ). f (unwrap_or (slice_get (x ∷ xs) n) d)) same

    shift : (i : ℕ) → f (unwrap_or (slice_get (x ∷ xs) (1 + i)) d) ≤ f (unwrap_or (slice_get xs i) d)
    shift i = let same = moved i in omega (arith, same)

    unshift : (i : ℕ) → f (unwrap_or (slice_get xs i) d) ≤ f (unwrap_or (slice_get (x ∷ xs) (1 + i)) d)
    unshift i = let same = moved i in omega (arith, same)

-- ---- what was not taken

module _ (clients : ℕ) (log pass : List Step) where
  both_taken : (queue : Queue) → taken queue (log ++ pass) ≡ taken queue log + taken queue pass
  both_taken queue = count_append (takes queue) log pass

  client_grows : (c : ℕ) → of_client (log ++ pass) c ≡ of_client log c + of_client pass c
  client_grows c =
      let x = both_taken (Chunks c) in
      let y = both_taken (Crumbs c) in
      let z = both_taken (Triggers c) in
      omega (arith, x, y, z)

  none_of_client : work clients (log ++ pass) ≤ work clients log → (c : ℕ) → c < clients → of_client pass c ≡ 0
  none_of_client few c low = none_case (of_client pass c) refl
    where
      none_case : (n : ℕ) → of_client pass c ≡ n → of_client pass c ≡ 0
      none_case zero e = e
      none_case (suc n) e =
          let grows = client_grows c in
          let more = sum_lt (of_client log) (of_client (log ++ pass)) clients c (λ c low. let same = client_grows c in omega (arith, same)) low (omega (arith, grows, e)) in
          let asks = both_taken Asks in
          absurd (omega (arith, few, more, asks))

  no_asks : work clients (log ++ pass) ≤ work clients log → taken Asks pass ≡ 0
  no_asks few =
      let more = sum_le (of_client log) (of_client (log ++ pass)) clients (λ c low. let same = client_grows c in omega (arith, same)) in
      let asks = both_taken Asks in
      omega (arith, few, more, asks)

sent_all : {A : Type 0} (most : ℕ) (items : List (Sent A)) → IsWithin most items → sent_within most items ≡ items
sent_all most [] all = refl
sent_all {A = A} most (item ∷ items) all =
    ap (λ b. cond b (item ∷ sent_within most items) (sent_within most items)) (lt-ltb item.number most all.0) ∙ ap (λ (rest : List (Sent A)). item ∷ rest) (sent_all most items all.1)

-- ---- through the schedule

module _ (k : Known) (W : PlainWorkload) (laid : IsLaidOut W) (least : MIN_SIZE ≤ W.settings.size) (weights : HaveWeights W.settings.triggers) where
  abbrev nodes : ℕ
  nodes = W.settings.nodes

  abbrev clients : ℕ
  clients = W.settings.clients

  abbrev load_at : Run → ℕ → ℕ
  load_at r i = option_map_or load (slice_get r.nodes i) 0

  abbrev work_at : Run → ℕ → ℕ
  work_at r i = option_map_or (λ (run : NodeRun). work clients run.state.log) (slice_get r.nodes i) 0

  abbrev heard_at : Run → ℕ → ℕ
  heard_at r i = count_by (is_from (record { 0 = i })) r.heard

  -- so much was worked off
  record Worked (n : ℕ) (r : Run) : Type 0 where
    enough : n + sum_to (load_at r) nodes ≤ sum_to (work_at r) nodes + sum_to (work_at r) nodes + sum_to (heard_at r) nodes

  -- ---- a pass

  later_at : (m : Machine) (i : ℕ) → i < W.settings.nodes → (later : NodeRun) × (slice_get (followed W m.journal).nodes i ≡ Some later)
  later_at m i low = let count = count_nodes k W m.journal in get_there (followed W m.journal).nodes i (omega (arith, low, count))

  module _ (m : Machine) (r : IsReached W m) where
    abbrev g : Keeps k W m
    g = kept k W m r

    abbrev before : Run
    before = followed W m.journal

    abbrev now : Run
    now = followed W (passes W m).journal

    record NodePass (i : ℕ) : Type 0 where
      node : NodeRun
      later : NodeRun
      stands : slice_get before.nodes i ≡ Some node
      there : slice_get now.nodes i ≡ Some later
      worked : IsWorked k W laid least weights node later
      load_is : load_at before i ≡ load node
      load_now : load_at now i ≡ load later
      work_is : work_at before i ≡ work clients node.state.log
      work_now : work_at now i ≡ work clients later.state.log
      heard_is : heard_at now i ≡ heard_at before i + min (length later.state.said - heard_at before i) MAX_TAKEN

    node_pass : (i : ℕ) → i < nodes → NodePass i
    node_pass i low =
        let first = later_at m i low in
        let second = later_at (passes W m) i low in
        let whole = ap (count_by (is_from (record { 0 = i }))) (heard_now k W m g) in
        let both = count_append (is_from (record { 0 = i })) before.heard (more k W m g) in
        let new = heard_more k W m g i second.0 second.1 in
        record {
          node = first.0;
          later = second.0;
          stands = first.1;
          there = second.1;
          worked = pass_works k W laid least weights m g i first.0 second.0 first.1 second.1;
          load_is = ap (λ o. option_map_or load o 0) first.1;
          load_now = ap (λ o. option_map_or load o 0) second.1;
          work_is = ap (λ o. option_map_or (λ (run : NodeRun). work clients run.state.log) o 0) first.1;
          work_now = ap (λ o. option_map_or (λ (run : NodeRun). work clients run.state.log) o 0) second.1;
          heard_is = omega (arith, whole, both, new);
        }

    -- the two sides of the account, node by node
    abbrev side : ℕ → ℕ
    side i = load_at now i + (work_at before i + (work_at before i + heard_at before i))

    abbrev other : ℕ → ℕ
    other i = load_at before i + (work_at now i + (work_at now i + heard_at now i))

    side_le : (i : ℕ) → i < nodes → side i ≤ other i
    side_le i low =
        let p = node_pass i low in
        let even = p.worked.even in
        let mono = p.worked.mono in
        let e = p.load_is in
        let f = p.load_now in
        let u = p.work_is in
        let v = p.work_now in
        let w = p.heard_is in
        omega (arith, even, mono, e, f, u, v, w)

    side_sum : sum_to side nodes ≡ sum_to (load_at now) nodes + (sum_to (work_at before) nodes + (sum_to (work_at before) nodes + sum_to (heard_at before) nodes))
    side_sum =
        let x = sum_both (load_at now) (λ i. work_at before i + (work_at before i + heard_at before i)) nodes in
        let y = sum_both (work_at before) (λ i. work_at before i + heard_at before i) nodes in
        let z = sum_both (work_at before) (heard_at before) nodes in
        omega (arith, x, y, z)

    other_sum : sum_to other nodes ≡ sum_to (load_at before) nodes + (sum_to (work_at now) nodes + (sum_to (work_at now) nodes + sum_to (heard_at now) nodes))
    other_sum =
        let x = sum_both (load_at before) (λ i. work_at now i + (work_at now i + heard_at now i)) nodes in
        let y = sum_both (work_at now) (λ i. work_at now i + heard_at now i) nodes in
        let z = sum_both (work_at now) (heard_at now) nodes in
        omega (arith, x, y, z)

    -- a pass works nothing on
    pass_even : (n : ℕ) → Worked n before → Worked n now
    pass_even n w =
        let le = sum_le side other nodes side_le in
        let x = side_sum in
        let y = other_sum in
        let enough = w.enough in
        record { enough = omega (arith, le, x, y, enough) }

    -- and one at which some node does something works one thing off
    pass_strict : (n i : ℕ) → i < nodes → side i < other i → Worked n before → Worked (n + 1) now
    pass_strict n i low less w =
        let lt = sum_lt side other nodes i side_le low less in
        let x = side_sum in
        let y = other_sum in
        let enough = w.enough in
        record { enough = omega (arith, lt, x, y, enough) }

    -- ---- a node that does nothing

    module _ (all_done : (place : ℕ) → place < length W.clients → done_at m place ≡ length (operations_at W place)) (i : ℕ) (low : i < nodes) (idle : other i ≤ side i) where
      p : NodePass i
      p = node_pass i low

      step : PassFrom k W m i p.later
      step = pass_from k W m r i p.later p.there

      same_node : step.node ≡ p.node
      same_node = same_Some step.node p.node (sym step.stands ∙ p.stands)

      abbrev node : NodeRun
      node = step.node

      abbrev pass : List Step
      pass = pass_steps W m before node ++ gives (range_with_len step.from step.count)

      nothing_worked : work clients (node.state.log ++ pass) ≤ work clients node.state.log
      nothing_worked =
          let even = p.worked.even in
          let mono = p.worked.mono in
          let e = p.load_is in
          let f = p.load_now in
          let u = p.work_is in
          let v = p.work_now in
          let w = p.heard_is in
          let log = ap (work clients) step.log in
          let same = ap (λ (n : NodeRun). work clients n.state.log) same_node in
          omega (arith, even, mono, e, f, u, v, w, log, same, idle)

      no_pins : node.state.pinned ≡ []
      no_pins =
          let even = p.worked.even in
          let mono = p.worked.mono in
          let e = p.load_is in
          let f = p.load_now in
          let u = p.work_is in
          let v = p.work_now in
          let w = p.heard_is in
          ap (λ (n : NodeRun). n.state.pinned) same_node ∙ either (p.worked.calm (omega (arith, even, mono, e, f, u, v, w, idle)))
        where
          either : (p.node.state.pinned ≡ []) ⊎ (load p.later < load p.node) → p.node.state.pinned ≡ []
          either (inl none) = none
          either (inr less) =
              let even = p.worked.even in
              let mono = p.worked.mono in
              let e = p.load_is in
              let f = p.load_now in
              let u = p.work_is in
              let v = p.work_now in
              let w = p.heard_is in
              absurd (omega (arith, less, even, mono, e, f, u, v, w, idle))

      all_heard : heard_at before i ≡ length node.state.said
      all_heard =
          let even = p.worked.even in
          let mono = p.worked.mono in
          let told = p.worked.told in
          let e = p.load_is in
          let f = p.load_now in
          let u = p.work_is in
          let v = p.work_now in
          let w = p.heard_is in
          let same = ap (λ (n : NodeRun). length n.state.said) same_node in
          let most = (fits k W m.journal).messages (record { 0 = i }) in
          let said = ap (λ o. option_map_or (λ (run : NodeRun). length run.state.said) o 0) p.stands in
          omega (arith, even, mono, told, e, f, u, v, w, same, most, said, idle)

      no_more_asks : taken Asks node.state.log ≡ length (asks_to node.node before.heard)
      no_more_asks =
          let none = no_asks clients node.state.log pass nothing_worked in
          let least_taken = asks_taken W m node (range_with_len step.from step.count) in
          let most = all_at (λ (n : NodeRun). (queue : Queue) → taken queue n.state.log ≤ supply n before.heard queue) before.nodes i node (fits k W m.journal).items step.stands Asks in
          omega (arith, none, least_taken, most)

      client_bare : (c : ℕ) (s : ClientSends) → slice_get node.sends c ≡ Some s → took_all node.state.log c s ≡ true
      client_bare c s found =
          let in_node = ap (λ (all : List ClientSends). slice_get all c) step.sends in
          let short = slice_get_within (node_sends W m.journal i) c s (sym in_node ∙ found) in
          let count = length-map (range_with_len 0 clients) (client_sends W m.journal i) ∙ length-range_with_len 0 clients in
          let few : c < clients = omega (arith, short, count) in
          let zeroth : 0 + c ≡ c = omega arith in
          let s_is : client_sends W m.journal i c ≡ s =
          same_Some (client_sends W m.journal i c) s
          (sym (slice_get-map (client_sends W m.journal i) (range_with_len 0 clients) c ∙ ap (option_map (client_sends W m.journal i)) (range_at 0 clients c few ∙ ap Some zeroth)) ∙ sym in_node ∙ found)
          in
          let place = place_of clients i c in
          let there = mul-add-lt i clients c nodes low few in
          let all = laid.clients in
          let done : done_at m (place_of clients node.node c) ≡ length (operations_at W place) =
          ap (λ (n : ℕ). done_at m (place_of clients n c)) step.number ∙ all_done place (omega (arith, there, all))
          in
          let none = none_of_client clients node.state.log pass nothing_worked c few in
          let stamps = range_with_len step.from step.count in
          let most : (queue : Queue) → taken queue node.state.log ≤ supply node before.heard queue =
          all_at (λ (n : NodeRun). (queue : Queue) → taken queue n.state.log ≤ supply n before.heard queue) before.nodes i node (fits k W m.journal).items step.stands
          in
          let zero_ops : 0 + length (operations_at W place) ≡ length (operations_at W place) = omega arith in
          let chunks_within : IsWithin (length (operations_at W place)) s.chunks =
          subst (λ (s : ClientSends). IsWithin (length (operations_at W place)) s.chunks) s_is
          (chunks_all (λ (s : ℕ). s < length (operations_at W place)) (client_sends W m.journal i c).drawn
          (drawn_all (λ (s : ℕ). s < length (operations_at W place)) (record { node = i; number = c }) 0 (timed_pages W.settings.size (operations_at W place)) (draws_at m.journal place)
          (λ j page at. (in_time 0 (length (operations_at W place)) (timed_pages W.settings.size (operations_at W place)) j page (timely_at k W laid least place) at).last)))
          in
          let crumbs_in : IsWithin (length (operations_at W place)) s.crumbs =
          subst (λ (s : ClientSends). IsWithin (length (operations_at W place)) s.crumbs) s_is (subst (λ (n : ℕ). IsWithin n (client_sends W m.journal i c).crumbs) zero_ops (crumbs_within 0 None (operations_at W place)))
          in
          let triggers_in_time : IsWithin (length (operations_at W place)) s.triggers =
          subst (λ (s : ClientSends). IsWithin (length (operations_at W place)) s.triggers) s_is
          (subst (λ (n : ℕ). IsWithin n (client_sends W m.journal i c).triggers) zero_ops (triggers_within W.settings.autos [] 0 None (operations_at W place)))
          in
          let chunks_sent = ap length (ap (λ (n : ℕ). sent_within n s.chunks) done ∙ sent_all (length (operations_at W place)) s.chunks chunks_within) in
          let crumbs_sent = ap length (ap (λ (n : ℕ). sent_within n s.crumbs) done ∙ sent_all (length (operations_at W place)) s.crumbs crumbs_in) in
          let triggers_sent = ap length (ap (λ (n : ℕ). sent_within n s.triggers) done ∙ sent_all (length (operations_at W place)) s.triggers triggers_in_time) in
          let x = chunks_taken W m node c s found stamps in
          let y = crumbs_taken W m node c s found stamps in
          let z = triggers_taken W m node c s found stamps in
          let few_chunks = most (Chunks c) in
          let few_crumbs = most (Crumbs c) in
          let few_triggers = most (Triggers c) in
          let own_chunks = ap (λ o. option_map_or (sent_to (Chunks c)) o 0) found in
          let own_crumbs = ap (λ o. option_map_or (sent_to (Crumbs c)) o 0) found in
          let own_triggers = ap (λ o. option_map_or (sent_to (Triggers c)) o 0) found in
          both_true
          (both_true (eq-eqb (taken (Chunks c) node.state.log) (length s.chunks) (omega (arith, none, chunks_sent, x, few_chunks, own_chunks)))
          (eq-eqb (taken (Crumbs c) node.state.log) (length s.crumbs) (omega (arith, none, crumbs_sent, y, few_crumbs, own_crumbs))))
          (eq-eqb (taken (Triggers c) node.state.log) (length s.triggers) (omega (arith, none, triggers_sent, z, few_triggers, own_triggers)))

      node_bare : (n : NodeRun) → slice_get before.nodes i ≡ Some n → is_left_bare before n ≡ true
      node_bare n stands =
          subst (λ (n : NodeRun). is_left_bare before n ≡ true) (same_Some step.node n (sym step.stands ∙ stands))
          (both_true
          (both_true
          (both_true
          (zipped_all (λ (c : ℕ × ClientSends). took_all node.state.log c.0 c.1) 0 node.sends
          (λ c s found. let zeroth : 0 + c ≡ c = omega arith in ap (λ (n : ℕ). took_all node.state.log n s) zeroth ∙ client_bare c s found))
          (eq-eqb (taken Asks node.state.log) (length (asks_to node.node before.heard)) no_more_asks))
          (eq-eqb (count_by (is_from (record { 0 = node.node })) before.heard) (length node.state.said) (ap (heard_at before) step.number ∙ all_heard)))
          (eq-eqb (length node.state.pinned) 0 (ap length no_pins)))

    below_or : (x y : ℕ) → (x < y) ⊎ (y ≤ x)
    below_or x zero = inr (omega arith)
    below_or zero (suc y) = inl (omega arith)
    below_or (suc x) (suc y) = elim (below_or x y) as (λ _. (suc x < suc y) ⊎ (suc y ≤ suc x)) [ inl less ↦ inl (omega (arith, less)) | inr more ↦ inr (omega (arith, more)) ]

    -- either some node does something, or all are bare
    some_or_none : (n : ℕ) → n ≤ nodes → ((i : ℕ) × (i < nodes) × (side i < other i)) ⊎ ((i : ℕ) → i < n → other i ≤ side i)
    some_or_none zero few = inr (λ i low. absurd (omega (arith, low)))
    some_or_none (suc n) few = either (some_or_none n (omega (arith, few))) (below_or (side n) (other n))
      where
        same_or : (i n : ℕ) → i < suc n → (i ≡ n) ⊎ (i < n)
        same_or zero zero low = inl refl
        same_or zero (suc n) low = inr (omega arith)
        same_or (suc i) zero low = absurd (omega (arith, low))
        same_or (suc i) (suc n) low = elim (same_or i n (omega (arith, low))) as (λ _. (suc i ≡ suc n) ⊎ (suc i < suc n)) [ inl e ↦ inl (ap suc e) | inr l ↦ inr (omega (arith, l)) ]

        last_case : other n ≤ side n → ((i : ℕ) → i < n → other i ≤ side i) → (i : ℕ) → (i ≡ n) ⊎ (i < n) → other i ≤ side i
        last_case here each i (inl e) = subst (λ (j : ℕ). other j ≤ side j) (sym e) here
        last_case here each i (inr l) = each i l

        either : ((i : ℕ) × (i < nodes) × (side i < other i)) ⊎ ((i : ℕ) → i < n → other i ≤ side i) → (side n < other n) ⊎ (other n ≤ side n) → ((i : ℕ) × (i < nodes) × (side i < other i)) ⊎ ((i : ℕ) → i < suc n → other i ≤ side i)
        either (inl some) x = inl some
        either (inr each) (inl less) = inl (n, omega (arith, few), less)
        either (inr each) (inr here) = inr (λ i low. last_case here each i (same_or i n low))

    all_bare : ((place : ℕ) → place < length W.clients → done_at m place ≡ length (operations_at W place)) → ((i : ℕ) → i < nodes → other i ≤ side i) → is_bare (played W m.journal) ≡ true
    all_bare done each =
        list_all_from (is_left_bare before) before.nodes
        (all_by_place (λ (node : NodeRun). is_left_bare before node ≡ true) before.nodes
        (λ i node stands.
        let short = slice_get_within before.nodes i node stands in
        let count = count_nodes k W m.journal in
        let low : i < nodes = omega (arith, short, count) in
        node_bare done i low (each i low) node stands))

    -- a pass of a machine that is not bare works one thing off
    pass_more : (n : ℕ) → ((place : ℕ) → place < length W.clients → done_at m place ≡ length (operations_at W place)) → is_bare (played W m.journal) ≡ false → Worked n before → Worked (n + 1) now
    pass_more n done unbare w = either (some_or_none nodes (omega arith))
      where
        either : ((i : ℕ) × (i < nodes) × (side i < other i)) ⊎ ((i : ℕ) → i < nodes → other i ≤ side i) → Worked (n + 1) now
        either (inl some) = pass_strict n some.0 some.1 some.2 w
        either (inr each) = let never : true ≡ false = sym (all_bare done each) ∙ unbare in absurd cc

  -- ---- the most that can be worked off

  abbrev pub size_of : ℕ → ℕ
  size_of place = length (pages_of W.settings.size (operations_at W place)) + length (operations_at W place)

  -- what all clients send at most
  abbrev pub all_of : ℕ
  all_of = sum_by (λ ops. length (pages_of W.settings.size ops) + length ops) W.clients

  pub sizes_are : sum_to (λ i. sum_to (λ c. size_of (place_of clients i c)) clients) nodes ≡ all_of
  sizes_are =
      let rows = sum_rows size_of clients nodes in
      let count = ap (sum_to size_of) (sym laid.clients) in
      let listed = sum_list (λ ops. length (pages_of W.settings.size ops) + length ops) [] [] W.clients in
      rows ∙ count ∙ listed

  module _ (m : Machine) where
    abbrev run_of : Run
    run_of = followed W m.journal

    client_few : (i c : ℕ) → length (client_sends W m.journal i c).chunks + length (client_sends W m.journal i c).crumbs + length (client_sends W m.journal i c).triggers ≤ size_of (place_of clients i c)
    client_few i c =
        let place = place_of clients i c in
        let ops = operations_at W place in
        let client : ClientId = record { node = i; number = c } in
        let chunks = chunks_few (client_sends W m.journal i c).drawn in
        let drawn = drawn_few client 0 (timed_pages W.settings.size ops) (draws_at m.journal place) in
        let pages = sym (length-map (timed_pages W.settings.size ops) (λ (p : TimedPage). p.page)) ∙ ap length (k.paged W.settings.size ops (ends_at W.clients place laid.ends)) in
        let others = sends_few W.settings.autos [] 0 None ops in
        omega (arith, chunks, drawn, pages, others)

    -- where a node's clients stand
    client_at : (i : ℕ) (node : NodeRun) → slice_get run_of.nodes i ≡ Some node → (c : ℕ) → c < clients → slice_get node.sends c ≡ Some (client_sends W m.journal i c)
    client_at i node stands c low =
        let number = number_is k W m.journal i node stands in
        let sends = own_sends k W m.journal i node stands ∙ ap (node_sends W m.journal) number in
        let zeroth : 0 + c ≡ c = omega arith in
        ap (λ (all : List ClientSends). slice_get all c) sends ∙ slice_get-map (client_sends W m.journal i) (range_with_len 0 clients) c
        ∙ ap (option_map (client_sends W m.journal i)) (range_at 0 clients c low ∙ ap Some zeroth)

    taken_few : (i : ℕ) (node : NodeRun) → slice_get run_of.nodes i ≡ Some node → (c : ℕ) → c < clients → of_client node.state.log c ≤ size_of (place_of clients i c)
    taken_few i node stands c low =
        let found = client_at i node stands c low in
        let most : (queue : Queue) → taken queue node.state.log ≤ supply node run_of.heard queue =
        all_at (λ (n : NodeRun). (queue : Queue) → taken queue n.state.log ≤ supply n run_of.heard queue) run_of.nodes i node (fits k W m.journal).items stands
        in
        let x = most (Chunks c) in
        let y = most (Crumbs c) in
        let z = most (Triggers c) in
        let own_chunks = ap (λ o. option_map_or (sent_to (Chunks c)) o 0) found in
        let own_crumbs = ap (λ o. option_map_or (sent_to (Crumbs c)) o 0) found in
        let own_triggers = ap (λ o. option_map_or (sent_to (Triggers c)) o 0) found in
        let few = client_few i c in
        omega (arith, x, y, z, own_chunks, own_crumbs, own_triggers, few)

    -- no more groups are admitted than triggers are sent
    pub admitted_few : (i : ℕ) → i < nodes → admitted_at run_of.nodes i ≤ sum_to (λ c. size_of (place_of clients i c)) clients
    admitted_few i low =
        let node = later_at m i low in
        let speaks : Speaks W.settings run_of.nodes node.0 = all_at (Speaks W.settings run_of.nodes) run_of.nodes i node.0 (spoken k W laid least weights m).nodes node.1 in
        let few = speaks.few in
        let is = ap (λ o. option_map_or (λ (run : NodeRun). run.state.admitted) o 0) node.1 in
        let number = number_is k W m.journal i node.0 node.1 in
        let sends = own_sends k W m.journal i node.0 node.1 in
        let long = ap length sends ∙ length-map (range_with_len 0 clients) (client_sends W m.journal node.0.node) ∙ length-range_with_len 0 clients in
        let clients_are = ap (λ (n : ℕ). triggers_in n node.0.state.log) long in
        let all = sum_le (λ c. taken (Triggers c) node.0.state.log) (λ c. size_of (place_of clients i c)) clients (λ c low. let most = taken_few i node.0 node.1 c low in omega (arith, most)) in
        omega (arith, few, is, clients_are, all)

    admitted_there : (ns : List NodeRun) (u n : ℕ) → n < admitted_at ns u → u < length ns
    admitted_there [] u n low = absurd (omega (arith, low))
    admitted_there (x ∷ ns) zero n low = omega arith
    admitted_there (x ∷ ns) (suc u) n low = let rest = admitted_there ns u n low in omega (arith, rest)

    numbered : AllByRecursion (IsNumbered (admitted_at run_of.nodes) nodes 0) run_of.heard
    numbered =
        all_each (λ (m : Message). is_known W.settings run_of.nodes m.told.group ≡ true) (IsNumbered (admitted_at run_of.nodes) nodes 0) run_of.heard
        (λ message known.
        let parts = and_parts (ltb message.told.group.id.number (admitted_at run_of.nodes message.told.group.id.node)) _ known in
        let low = ltb-true message.told.group.id.number (admitted_at run_of.nodes message.told.group.id.node) parts.0 in
        let there = admitted_there run_of.nodes message.told.group.id.node message.told.group.id.number low in
        let count = count_nodes k W m.journal in
        (omega (arith, there, count), low))
        (spoken k W laid least weights m).heard

    work_few : (i : ℕ) → i < nodes → work_at run_of i ≤ sum_to (λ c. size_of (place_of clients i c)) clients + all_of
    work_few i low =
        let node = later_at m i low in
        let is = ap (λ o. option_map_or (λ (run : NodeRun). work clients run.state.log) o 0) node.1 in
        let items = sum_le (of_client node.0.state.log) (λ c. size_of (place_of clients i c)) clients (taken_few i node.0 node.1) in
        let asks =
        all_at (λ (n : NodeRun). (queue : Queue) → taken queue n.state.log ≤ supply n run_of.heard queue) run_of.nodes i node.0 (fits k W m.journal).items node.1 Asks
        in
        let groups = asks_few (admitted_at run_of.nodes) nodes node.0.node run_of.heard numbered in
        let admitted = sum_le (admitted_at run_of.nodes) (λ i. sum_to (λ c. size_of (place_of clients i c)) clients) nodes admitted_few in
        let sizes = sizes_are in
        omega (arith, is, items, asks, groups, admitted, sizes)

    heard_few : (i : ℕ) → i < nodes → heard_at run_of i ≤ load_at run_of i
    heard_few i low =
        let node = later_at m i low in
        let most = (fits k W m.journal).messages (record { 0 = i }) in
        let said = ap (λ o. option_map_or (λ (run : NodeRun). length run.state.said) o 0) node.1 in
        let is = ap (λ o. option_map_or load o 0) node.1 in
        omega (arith, most, said, is)

    -- so only so many passes find something to do
    passes_few : (n : ℕ) → Worked n run_of → n ≤ 2 * (all_of + nodes * all_of)
    passes_few n w =
        let enough = w.enough in
        let heard = sum_le (heard_at run_of) (load_at run_of) nodes heard_few in
        let works = sum_le (work_at run_of) (λ i. sum_to (λ c. size_of (place_of clients i c)) clients + all_of) nodes work_few in
        let both = sum_both (λ i. sum_to (λ c. size_of (place_of clients i c)) clients) (λ i. all_of) nodes in
        let const = sum_const all_of nodes in
        let sizes = sizes_are in
        omega (arith, enough, heard, works, both, const, sizes)

  -- ---- closing

  closing_case : (n : ℕ) (m : Machine) (b : Bool) → is_bare (played W m.journal) ≡ b → (is_bare (played W m.journal) ≡ false → is_bare (played W (closing n W (passes W m)).journal) ≡ true)
      → is_bare (played W (elim b as (λ _. Machine) [ true ↦ m | false ↦ closing n W (passes W m) ]).journal) ≡ true
  closing_case n m true e on = e
  closing_case n m false e on = on e

  closing_bare : (fuel n : ℕ) (m : Machine) → IsReached W m → ((place : ℕ) → place < length W.clients → done_at m place ≡ length (operations_at W place)) → Worked n (followed W m.journal)
      → 2 * (all_of + nodes * all_of) < n + fuel → is_bare (played W (closing fuel W m).journal) ≡ true
  closing_bare zero n m r done w high = let few = passes_few m n w in absurd (omega (arith, few, high))
  closing_bare (suc fuel) n m r done w high =
      closing_case fuel m (is_bare (played W m.journal)) refl (λ unbare. closing_bare fuel (n + 1) (passes W m) (standing.pass_on W m r) done (pass_more m r n done unbare w) (omega (arith, high)))

  -- ---- the clause

  even_start : Worked 0 (followed W (machine_start W).journal)
  even_start =
      subst (Worked 0) (starts_at k W)
      (record { enough = let loads = sum_le (load_at (run_start W (machine_start W).journal)) (λ i. 0) nodes (λ i low. none_at i (slice_get (run_start W (machine_start W).journal).nodes i) refl) in let none = sum_const 0 nodes in let zeroes : nodes * 0 ≡ 0 = omega arith in omega (arith, loads, none, zeroes) })
    where
      none_at : (i : ℕ) (o : Option NodeRun) → slice_get (run_start W (machine_start W).journal).nodes i ≡ o → option_map_or load o 0 ≤ 0
      none_at i None e = omega arith
      none_at i (Some run) e = start_at run (range_with_len 0 nodes) i e
        where
          start_at : (run : NodeRun) (numbers : List ℕ) (i : ℕ) → slice_get (map (node_start W (machine_start W).journal) numbers) i ≡ Some run → load run ≤ 0
          start_at run [] i e = let never : None ≡ Some run = e in absurd cc
          start_at run (n ∷ numbers) zero e = let same = ap load (same_Some (node_start W (machine_start W).journal n) run e) in omega (arith, same)
          start_at run (n ∷ numbers) (suc i) e = start_at run numbers i e

  even_client : (gone : ℕ) (m : Machine) → IsReached W m → Worked 0 (followed W m.journal) → Worked 0 (followed W (client_goes W m gone).journal)
  even_client gone m r w =
      let new = (client_goes W m gone).journal in
      subst (Worked 0)
      (draws_are k W m gone (min (done_at m gone + W.settings.stride) (length (operations_at W gone)))
      (draws_in W m (gone / W.settings.clients) (pages_started W gone (min (done_at m gone + W.settings.stride) (length (operations_at W gone))) - pages_started W gone (done_at m gone))) (kept k W m r).done)
      (let loads = sum_le (load_at (run_behind W m.journal new (followed W m.journal))) (load_at (followed W m.journal)) nodes (λ i low. let same = load_same i in omega (arith, same)) in
      let works = sum_le (work_at (followed W m.journal)) (work_at (run_behind W m.journal new (followed W m.journal))) nodes (λ i low. let same = work_same i in omega (arith, same)) in
      let enough = w.enough in
      record { enough = omega (arith, loads, works, enough) })
    where
      load_same : (i : ℕ) → load_at (run_behind W m.journal (client_goes W m gone).journal (followed W m.journal)) i ≡ load_at (followed W m.journal) i
      load_same i = ap (λ o. option_map_or load o 0) (slice_get-map (node_behind W m.journal (client_goes W m gone).journal) (followed W m.journal).nodes i) ∙ kept (slice_get (followed W m.journal).nodes i)
        where
          kept : (o : Option NodeRun) → option_map_or load (option_map (node_behind W m.journal (client_goes W m gone).journal) o) 0 ≡ option_map_or load o 0
          kept None = refl
          kept (Some run) = refl

      work_same : (i : ℕ) → work_at (run_behind W m.journal (client_goes W m gone).journal (followed W m.journal)) i ≡ work_at (followed W m.journal) i
      work_same i =
          ap (λ o. option_map_or (λ (run : NodeRun). work clients run.state.log) o 0) (slice_get-map (node_behind W m.journal (client_goes W m gone).journal) (followed W m.journal).nodes i) ∙ kept (slice_get (followed W m.journal).nodes i)
        where
          kept : (o : Option NodeRun) → option_map_or (λ (run : NodeRun). work clients run.state.log) (option_map (node_behind W m.journal (client_goes W m gone).journal) o) 0 ≡ option_map_or (λ (run : NodeRun). work clients run.state.log) o 0
          kept None = refl
          kept (Some run) = refl

  clients_even : (first places : ℕ) (m : Machine) → first + places ≤ length W.clients → IsReached W m → Worked 0 (followed W m.journal) → Worked 0 (followed W (fold (client_goes W) m (range_with_len first places)).journal)
  clients_even first zero m few r w = w
  clients_even first (suc places) m few r w = clients_even (first + 1) places (client_goes W m first) (omega (arith, few)) (reaching.Goes m first (omega (arith, few)) r) (even_client first m r w)

  rounds_even : (n : ℕ) (m : Machine) → IsReached W m → Worked 0 (followed W m.journal) → Worked 0 (followed W (rounds n W m).journal)
  rounds_even zero m r w = w
  rounds_even (suc n) m r w =
      let gone = ((standing.machines_lead_on W).each m r).clients in
      rounds_even n (round W m) (standing.pass_on W (clients_go W m) gone) (pass_even (clients_go W m) gone 0 (clients_even 0 (length W.clients) m (omega arith) r w))

  pub bare_all : is_bare (played W (lockstep W)) ≡ true
  bare_all =
      let m = rounds (rounds_of W) W (machine_start W) in
      closing_bare (closing_limit W) 0 m (standing.rounds_on W (rounds_of W) (machine_start W) reaching.Starts)
      (λ place low.
      let is = (rounds_go k W laid (rounds_of W) 0 (machine_start W) (begins k W laid)).done place low in
      let cover = all_covered k W laid place low in
      let zeroth : 0 + rounds_of W ≡ rounds_of W = omega arith in
      let product = ap (λ n. n * W.settings.stride) zeroth in
      omega (arith, is, cover, product))
      (rounds_even (rounds_of W) (machine_start W) reaching.Starts even_start) (omega arith)

pub schedule_is_bare : Known → ScheduleIsBare
schedule_is_bare k W runs = bare_all k W runs.laid runs.size runs.weights
