-- The clauses that the loops of a run keep by themselves: the shape, whole passes, passes enough, that the journal can be followed, and
-- that nothing is left over.
use Rattle.std.proofs.Common.{◌≡◌, ℕ, zero, suc, ◌+◌, ◌<◌, ◌≤◌, Bool, true, ◌&&◌, ◌==◌, List, [], ◌∷◌, length, refl, sym, ap, ◌∙◌, Some, arith, map, slice_get, count_by, eq-eqb, nat_eq, nat_le, le-leb, zip}
use Rattle.hs_law_run.proofs.Prelude.{AllByRecursion, range_with_len, list_all, and_from, length-map, length-range_with_len, length-filter, list_all_range_below, all_at, all_each, message, PlainJournal, EventsAddThis, start, pages_of, PlainWorkload, Sent, ClientSends, client_sends, node_sends, items_of, rounds_of, Chunks, Crumbs, Triggers, Asks, taken, asks_to, is_from, log_at, NodeRun, Run, is_done, passes_of, queues_of, NodeDoings, Doings, all_events, steps_of, last_state, all_heard, journal_of, node_at_end, run_of, IsPass, ArePlayable, HaveRounds, DoingsAreFollowed, passes_are, HasNothingLeft}
use Rattle.hs_law_journal.specs.Ends.{took_all, is_left_bare}
use Rattle.hs_law_journal.specs.Passes.{is_whole_pass}
use Rattle.hs_law_journal.specs.Shape.{same_counts}
use Rattle.hs_law_run.specs.Facts.{HavePasses}
use Rattle.hs_law_run.specs.Playing.{CanBeFollowed, HaveShape, AreWholePasses, AreEnough, AreBare}
use Rattle.hs_law_run.proofs.Following.{taken_chunks, taken_crumbs, taken_triggers, taken_asks}
use Rattle.hs_law_run.proofs.Nodes.{node_there, log_there, own_log}
use Rattle.hs_law_journal.proofs.Passes.{is_whole, turns, turns_are}

-- ---- lists

pub mapped_true : {X Y : Type 0} (p : Y → Bool) (f : X → Y) (xs : List X) → AllByRecursion (λ x. p (f x) ≡ true) xs → list_all p (map f xs) ≡ true
mapped_true p f [] all = refl
mapped_true p f (x ∷ xs) all = and_from (p (f x)) (list_all p (map f xs)) all.0 (mapped_true p f xs all.1)

-- ---- L8

nothing_left : (W : PlainWorkload) (J : PlainJournal) (ns : List NodeDoings) → list_all (λ (node : NodeRun). length node.left == 0) (map (node_at_end W J) ns) ≡ true
nothing_left W J [] = refl
nothing_left W J (n ∷ ns) = nothing_left W J ns

pub can_be_followed : DoingsAreFollowed → CanBeFollowed
can_be_followed follows W d facts = ap is_done (follows W d facts) ∙ ap (λ b. b && true) (nothing_left W (journal_of W d) d.nodes)

-- ---- L1

counts_same : (counts : List ℕ) → same_counts counts counts ≡ true
counts_same [] = refl
counts_same (count ∷ counts) = and_from (nat_eq count count) (same_counts counts counts) (eq-eqb count count refl) (counts_same counts)

pub have_shape : HaveShape
have_shape W d facts drawn =
    let logs : length (journal_of W d).logs ≡ W.settings.nodes =
    length-map d.nodes (λ (n : NodeDoings). steps_of (all_events n)) ∙ sym (length-map d.nodes (λ (n : NodeDoings). n.node)) ∙ ap length facts.numbers ∙ length-range_with_len 0 W.settings.nodes
    in
    let counts = map (λ ops. length (pages_of W.settings.size ops)) W.clients in
    and_from (nat_eq W.settings.nodes W.settings.nodes && nat_eq W.settings.clients W.settings.clients && nat_eq (length (journal_of W d).logs) W.settings.nodes) (same_counts (map length d.draws) counts)
    (and_from (nat_eq W.settings.nodes W.settings.nodes && nat_eq W.settings.clients W.settings.clients) (nat_eq (length (journal_of W d).logs) W.settings.nodes)
    (and_from (nat_eq W.settings.nodes W.settings.nodes) (nat_eq W.settings.clients W.settings.clients) (eq-eqb W.settings.nodes W.settings.nodes refl) (eq-eqb W.settings.clients W.settings.clients refl))
    (eq-eqb (length (journal_of W d).logs) W.settings.nodes logs))
    (ap (λ all. same_counts all counts) drawn ∙ counts_same counts)

-- ---- L5 and L9

module _ (W : PlainWorkload) (d : Doings) (facts : ArePlayable W d) (passes : HavePasses W d) where
  abbrev J : PlainJournal
  J = journal_of W d

  node_passes : (v : ℕ) (n : NodeDoings) → slice_get d.nodes v ≡ Some n → AllByRecursion (IsPass W) n.passes
  node_passes v n h = all_at (λ (n : NodeDoings). AllByRecursion (IsPass W) n.passes) d.nodes v n passes h

  whole_at : (v : ℕ) → v < 0 + W.settings.nodes → list_all (is_whole_pass (queues_of W)) (passes_of (log_at J v)) ≡ true
  whole_at v low =
      let found = node_there W d facts v (omega (arith, low)) in
      let n = found.0 in
      let each = node_passes v n found.1 in
      ap (λ log. list_all (is_whole_pass (queues_of W)) (passes_of log)) (log_there W d facts v n found.1)
      ∙ ap (list_all (is_whole_pass (queues_of W))) (passes_are W n.passes each)
      ∙ mapped_true (is_whole_pass (queues_of W)) steps_of n.passes (all_each (IsPass W) (λ pass. is_whole_pass (queues_of W) (steps_of pass) ≡ true) n.passes (is_whole W) each)

  all_whole : list_all (λ node. list_all (is_whole_pass (queues_of W)) (passes_of (log_at J node))) (range_with_len 0 W.settings.nodes) ≡ true
  all_whole = list_all_range_below (λ node. list_all (is_whole_pass (queues_of W)) (passes_of (log_at J node))) 0 W.settings.nodes whole_at

  turns_there : (v : ℕ) → v < W.settings.nodes → turns (log_at J v) ≡ length d.heard
  turns_there v low =
      let found = node_there W d facts v low in
      let n = found.0 in
      ap turns (log_there W d facts v n found.1) ∙ turns_are W n.passes (node_passes v n found.1) ∙ all_at (λ (n : NodeDoings). length n.passes ≡ length d.heard) d.nodes v n facts.passes found.1

  enough_at : HaveRounds W d → (v : ℕ) → v < 0 + W.settings.nodes → (nat_eq (turns (log_at J v)) (turns (log_at J 0)) && nat_le (rounds_of W) (turns (log_at J v))) ≡ true
  enough_at rounds v low =
      let here = turns_there v (omega (arith, low)) in
      let first = turns_there 0 (omega (arith, low)) in
      and_from (nat_eq (turns (log_at J v)) (turns (log_at J 0))) (nat_le (rounds_of W) (turns (log_at J v))) (eq-eqb (turns (log_at J v)) (turns (log_at J 0)) (here ∙ sym first))
      (le-leb (rounds_of W) (turns (log_at J v)) (omega (arith, here, rounds)))

pub are_whole_passes : AreWholePasses
are_whole_passes W d facts passes = all_whole W d facts passes

pub are_enough : AreEnough
are_enough W d facts passes rounds =
    list_all_range_below (λ node. nat_eq (turns (log_at (journal_of W d) node)) (turns (log_at (journal_of W d) 0)) && nat_le (rounds_of W) (turns (log_at (journal_of W d) node))) 0 W.settings.nodes
    (enough_at W d facts passes rounds)

-- ---- L10

module _ (adds : EventsAddThis) (W : PlainWorkload) (d : Doings) where
  abbrev K : PlainJournal
  K = journal_of W d

  items_long : {A : Type 0} (items : List (Sent A)) → length (items_of items) ≡ length items
  items_long items = length-map items (λ item. item.item)

  client_bare : (n : NodeDoings) → HasNothingLeft W d n → (client : ℕ) → client < W.settings.clients → took_all (steps_of (all_events n)) client (client_sends W K n.node client) ≡ true
  client_bare n p client low =
      let events = all_events n in
      let log = steps_of events in
      let s = client_sends W K n.node client in
      let t = p.took client low in
      and_from (nat_eq (taken (Chunks client) log) (length s.chunks) && nat_eq (taken (Crumbs client) log) (length s.crumbs)) (nat_eq (taken (Triggers client) log) (length s.triggers))
      (and_from (nat_eq (taken (Chunks client) log) (length s.chunks)) (nat_eq (taken (Crumbs client) log) (length s.crumbs))
      (eq-eqb (taken (Chunks client) log) (length s.chunks) (taken_chunks client events ∙ ap length t.chunks ∙ items_long s.chunks))
      (eq-eqb (taken (Crumbs client) log) (length s.crumbs) (taken_crumbs client events ∙ ap length t.crumbs ∙ items_long s.crumbs)))
      (eq-eqb (taken (Triggers client) log) (length s.triggers) (taken_triggers client events ∙ ap length t.triggers ∙ items_long s.triggers))

  clients_bare : (n : NodeDoings) → HasNothingLeft W d n → (start count : ℕ) → start + count ≤ W.settings.clients
      → list_all (λ (c : ℕ × ClientSends). took_all (steps_of (all_events n)) c.0 c.1) (zip (range_with_len start (length (map (client_sends W K n.node) (range_with_len start count)))) (map (client_sends W K n.node) (range_with_len start count))) ≡ true
  clients_bare n p start zero few = refl
  clients_bare n p start (suc count) few =
      and_from (took_all (steps_of (all_events n)) start (client_sends W K n.node start))
      (list_all (λ (c : ℕ × ClientSends). took_all (steps_of (all_events n)) c.0 c.1)
      (zip (range_with_len (start + 1) (length (map (client_sends W K n.node) (range_with_len (start + 1) count)))) (map (client_sends W K n.node) (range_with_len (start + 1) count))))
      (client_bare n p start (omega (arith, few))) (clients_bare n p (start + 1) count (omega (arith, few)))

  node_bare : (n : NodeDoings) → HasNothingLeft W d n → is_left_bare (run_of W d) (node_at_end W K n) ≡ true
  node_bare n p =
      let state = last_state W.settings n in
      let log : state.log ≡ steps_of (all_events n) = own_log adds W.settings n.node (all_events n) in
      let clients = list_all (λ (c : ℕ × ClientSends). took_all state.log c.0 c.1) (zip (range_with_len 0 (length (node_sends W K n.node))) (node_sends W K n.node)) in
      let asks = nat_eq (taken Asks state.log) (length (asks_to n.node (all_heard d))) in
      let heard = nat_eq (count_by (is_from (record { 0 = n.node })) (all_heard d)) (length state.said) in
      let long : count_by (is_from (record { 0 = n.node })) (all_heard d) ≡ length state.said =
      sym (length-filter (is_from (record { 0 = n.node })) (all_heard d)) ∙ ap length p.heard ∙ length-map state.said (message (record { 0 = n.node }))
      in
      and_from (clients && asks && heard) (nat_eq (length state.pinned) 0)
      (and_from (clients && asks) heard
      (and_from clients asks
      (ap (λ log. list_all (λ (c : ℕ × ClientSends). took_all log c.0 c.1) (zip (range_with_len 0 (length (node_sends W K n.node))) (node_sends W K n.node))) log ∙ clients_bare n p 0 W.settings.clients (omega arith))
      (eq-eqb (taken Asks state.log) (length (asks_to n.node (all_heard d))) (ap (taken Asks) log ∙ taken_asks (all_events n) ∙ ap length p.asked)))
      (eq-eqb (count_by (is_from (record { 0 = n.node })) (all_heard d)) (length state.said) long))
      (eq-eqb (length state.pinned) 0 p.unpinned)

  nodes_bare : (ns : List NodeDoings) → AllByRecursion (HasNothingLeft W d) ns → list_all (is_left_bare (run_of W d)) (map (node_at_end W K) ns) ≡ true
  nodes_bare [] left = refl
  nodes_bare (n ∷ ns) left = and_from (is_left_bare (run_of W d) (node_at_end W K n)) (list_all (is_left_bare (run_of W d)) (map (node_at_end W K) ns)) (node_bare n left.0) (nodes_bare ns left.1)

pub are_bare : DoingsAreFollowed → EventsAddThis → AreBare
are_bare follows adds W d facts left =
    ap (λ (run : Run). list_all (is_left_bare run) run.nodes) (follows W d facts) ∙ nodes_bare adds W d d.nodes left
