-- What the coordinator hears in a pass: of each node what it said, or as many messages as it may.
use Rattle.std.proofs.Common.{◌≡◌, ℕ, zero, suc, ◌+◌, ◌-◌, ◌<◌, ◌≤◌, min, Bool, true, false, List, [], ◌∷◌, ◌++◌, length, refl, sym, ap, subst, ◌∙◌, Some, None, arith, map, slice_get, replicate, count_by, eqb, eqb-true, eq-eqb}
use Rattle.hs_law_run.proofs.Prelude.{flat_map, range_with_len, slice_get-map, same_Some, one_if, count_cons, count_append, option_unmap, NodeId, MAX_TAKEN, Messages, PlainWorkload, node_behind, is_from, NodeRun, Run, followed, Known, Machine, agents_take, agents_give, told_of, coordinator_hears, passes}
use Rattle.hs_law_run.proofs.Followed.{number_is, count_nodes, nodes_of_journal, take_there, give_there, hear_there, IsDone}
use Rattle.hs_law_run.proofs.Keeping.{Keeps, take_keeps_held, give_keeps_held}
use Rattle.hs_law_run.proofs.Walks.{is_node}

module _ (run : Run) where
  abbrev told_count : NodeId → List NodeRun → ℕ
  told_count v nodes = count_by (is_node v) (flat_map (told_of run) nodes)

  told_none : (nodes : List NodeRun) (start : ℕ) (v : NodeId) → map (λ (n : NodeRun). n.node) nodes ≡ range_with_len start (length nodes) → v.0 < start → told_count v nodes ≡ 0
  told_none [] start v numbers low = refl
  told_none (node ∷ nodes) start v numbers low =
      let head : node.node ≡ start = cc in
      let tail : map (λ (n : NodeRun). n.node) nodes ≡ range_with_len (start + 1) (length nodes) = cc in
      let both = count_append (is_node v) (told_of run node) (flat_map (told_of run) nodes) in
      let here = other_none node v (omega (arith, head, low)) in
      let rest = told_none nodes (start + 1) v tail (omega (arith, low)) in
      omega (arith, both, here, rest)
    where
      other_none : (node : NodeRun) (v : NodeId) → v.0 < node.node → count_by (is_node v) (told_of run node) ≡ 0
      other_none node v low = none_of (min (length node.state.said - count_by (is_from (record { 0 = node.node })) run.heard) MAX_TAKEN) (differ (eqb node.node v.0) refl)
        where
          differ : (b : Bool) → eqb node.node v.0 ≡ b → eqb node.node v.0 ≡ false
          differ true e = let same = eqb-true node.node v.0 e in absurd (omega (arith, same, low))
          differ false e = e

          none_of : (n : ℕ) → eqb node.node v.0 ≡ false → count_by (is_node v) (replicate n (record { 0 = node.node })) ≡ 0
          none_of zero e = refl
          none_of (suc n) e =
              let first = count_cons (is_node v) (record { 0 = node.node }) (replicate n (record { 0 = node.node })) in
              let here = ap one_if e in
              let rest = none_of n e in
              omega (arith, first, here, rest)

  all_of : (n : ℕ) (node : NodeRun) → count_by (is_node (record { 0 = node.node })) (replicate n (record { 0 = node.node })) ≡ n
  all_of zero node = refl
  all_of (suc n) node =
      let first = count_cons (is_node (record { 0 = node.node })) (record { 0 = node.node }) (replicate n (record { 0 = node.node })) in
      let here = ap one_if (eq-eqb node.node node.node refl) in
      let rest = all_of n node in
      omega (arith, first, here, rest)

  -- what is heard of a node is its own
  told_own : (nodes : List NodeRun) (start i : ℕ) (node : NodeRun) → map (λ (n : NodeRun). n.node) nodes ≡ range_with_len start (length nodes) → slice_get nodes i ≡ Some node
      → told_count (record { 0 = node.node }) nodes ≡ min (length node.state.said - count_by (is_from (record { 0 = node.node })) run.heard) MAX_TAKEN
  told_own [] start i node numbers h = let never : None ≡ Some node = h in absurd cc
  told_own (first ∷ nodes) start zero node numbers h =
      let head : first.node ≡ start = cc in
      let tail : map (λ (n : NodeRun). n.node) nodes ≡ range_with_len (start + 1) (length nodes) = cc in
      let v : NodeId = record { 0 = first.node } in
      let both = count_append (is_node v) (told_of run first) (flat_map (told_of run) nodes) in
      let here = all_of (min (length first.state.said - count_by (is_from v) run.heard) MAX_TAKEN) first in
      let rest = told_none nodes (start + 1) v tail (omega (arith, head)) in
      subst (λ (node : NodeRun). told_count (record { 0 = node.node }) (first ∷ nodes) ≡ min (length node.state.said - count_by (is_from (record { 0 = node.node })) run.heard) MAX_TAKEN) (same_Some first node h)
      (omega (arith, both, here, rest))
  told_own (first ∷ nodes) start (suc i) node numbers h =
      let head : first.node ≡ start = cc in
      let tail : map (λ (n : NodeRun). n.node) nodes ≡ range_with_len (start + 1) (length nodes) = cc in
      let v : NodeId = record { 0 = node.node } in
      let both = count_append (is_node v) (told_of run first) (flat_map (told_of run) nodes) in
      let number = number_at nodes (start + 1) i node tail h in
      let none = not_of (min (length first.state.said - count_by (is_from (record { 0 = first.node })) run.heard) MAX_TAKEN) (differ (eqb first.node node.node) refl (omega (arith, head, number))) in
      let rest = told_own nodes (start + 1) i node tail h in
      omega (arith, both, none, rest)
    where
      number_at : (nodes : List NodeRun) (start i : ℕ) (node : NodeRun) → map (λ (n : NodeRun). n.node) nodes ≡ range_with_len start (length nodes) → slice_get nodes i ≡ Some node → start ≤ node.node
      number_at [] start i node numbers h = let never : None ≡ Some node = h in absurd cc
      number_at (x ∷ nodes) start zero node numbers h =
          let head : x.node ≡ start = cc in
          let same = ap (λ (n : NodeRun). n.node) (same_Some x node h) in
          omega (arith, head, same)
      number_at (x ∷ nodes) start (suc i) node numbers h =
          let tail : map (λ (n : NodeRun). n.node) nodes ≡ range_with_len (start + 1) (length nodes) = cc in
          let rest = number_at nodes (start + 1) i node tail h in
          omega (arith, rest)

      differ : (b : Bool) → eqb first.node node.node ≡ b → first.node < node.node → eqb first.node node.node ≡ false
      differ true e low = let same = eqb-true first.node node.node e in absurd (omega (arith, same, low))
      differ false e low = e

      not_of : (n : ℕ) → eqb first.node node.node ≡ false → count_by (is_node (record { 0 = node.node })) (replicate n (record { 0 = first.node })) ≡ 0
      not_of zero e = refl
      not_of (suc n) e =
          let head = count_cons (is_node (record { 0 = node.node })) (record { 0 = first.node }) (replicate n (record { 0 = first.node })) in
          let here = ap one_if e in
          let rest = not_of n e in
          omega (arith, head, here, rest)

module _ (k : Known) (W : PlainWorkload) (m : Machine) (g : Keeps k W m) where
  abbrev own : ℕ → NodeId
  own i = record { 0 = i }

  abbrev before : Run
  before = followed W m.journal

  abbrev now : Run
  now = followed W (passes W m).journal

  -- the machine before the coordinator hears
  abbrev given : Machine
  given = agents_give W (agents_take W m)

  pub given_done : IsDone W (agents_give W (agents_take W m))
  given_done = (give_keeps_held k W (agents_take W m) (take_keeps_held k W m g)).done

  -- the agents let the coordinator be
  pub heard_given : (followed W given.journal).heard ≡ before.heard
  heard_given = (give_there k W (agents_take W m) (take_keeps_held k W m g).done).heard ∙ (take_there k W m g.done).heard

  abbrev pub more : Messages
  more = (hear_there k W given given_done).more

  pub heard_now : now.heard ≡ before.heard ++ more
  heard_now = (hear_there k W given given_done).heard ∙ ap (λ (front : Messages). front ++ more) heard_given

  module _ (i : ℕ) (later : NodeRun) (stands : slice_get now.nodes i ≡ Some later) where
    -- what the coordinator heard of the node in this pass
    pub heard_more : count_by (is_from (own i)) more ≡ min (length later.state.said - count_by (is_from (own i)) before.heard) MAX_TAKEN
    heard_more =
        let hears = hear_there k W given given_done in
        let u =
        option_unmap (node_behind W given.journal (coordinator_hears W given).journal) (slice_get (followed W given.journal).nodes i) later
        (sym (slice_get-map (node_behind W given.journal (coordinator_hears W given).journal) (followed W given.journal).nodes i) ∙ ap (λ (nodes : List NodeRun). slice_get nodes i) (sym hears.nodes) ∙ stands)
        in
        let number = number_is k W given.journal i u.0 u.1 in
        let numbers : map (λ (n : NodeRun). n.node) (followed W given.journal).nodes ≡ range_with_len 0 (length (followed W given.journal).nodes) =
        (nodes_of_journal k W given.journal).numbers
        ∙ ap (range_with_len 0) (sym (count_nodes k W given.journal))
        in
        let told = told_own (followed W given.journal) (followed W given.journal).nodes 0 i u.0 numbers u.1 in
        hears.senders (own i)
        ∙ ap (λ (v : ℕ). count_by (is_node (own v)) (flat_map (told_of (followed W given.journal)) (followed W given.journal).nodes)) (sym number)
        ∙ told
        ∙ ap (λ (v : ℕ). min (length u.0.state.said - count_by (is_from (own v)) (followed W given.journal).heard) MAX_TAKEN) number
        ∙ ap (λ (heard : Messages). min (length u.0.state.said - count_by (is_from (own i)) heard) MAX_TAKEN) heard_given
        ∙ ap (λ (n : NodeRun). min (length n.state.said - count_by (is_from (own i)) before.heard) MAX_TAKEN) u.2
