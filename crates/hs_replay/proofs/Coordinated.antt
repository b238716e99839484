-- Node after node the coordinator hears what the machine's coordinator hears, and then all stand where that machine says.
use Rattle.std.proofs.Common.{◌≡◌, ℕ, zero, suc, ◌+◌, ◌-◌, ◌<◌, ◌≤◌, min, Bool, true, false, cond, List, [], ◌∷◌, ◌++◌, length, replicate, take, refl, sym, ap, subst, ◌∙◌, Option, Some, None, arith, slice_get, count_by, eqb, eqb-true, append-nil}
use Rattle.hs_replay.proofs.Prelude.{AllByRecursion, flat_map, option_and_then, same_Some, take_whole, count_push, MAX_TAKEN, NodeId, Message, Messages, PlainCoordinator, PlainWorkload, is_from, NodeRun, Run, message_of, followed, Machine, heard_in, after_names, StepByStep, MachinesAreWhole, message_named, HasHeard, AllAt, name_of, waiting, HearsNode, HeardUpTo, PlainReplayNode, NodeIsHeard}
use Rattle.std.proofs.lemmas.Grind.{flat_map-append}
use Rattle.hs_law_run.specs.Lockstep.{told_of, coordinator_hears}
use Rattle.hs_law_run.specs.Parts.{CoordinatorHearsSo}
use Rattle.hs_law_run.specs.Reaching.{Hears}

-- ---- lists

module _ {X : Type 0} where
  take_more : (xs : List X) (k : ℕ) (x : X) → slice_get xs k ≡ Some x → take (k + 1) xs ≡ take k xs ++ x ∷ []
  take_more [] k x at = let never : None ≡ Some x = at in absurd cc
  take_more (y ∷ xs) zero x at = ap (λ (z : X). z ∷ []) (same_Some y x at)
  take_more (y ∷ xs) (suc k) x at =
      let e : suc k + 1 ≡ suc (k + 1) = omega arith in ap (λ (n : ℕ). take n (y ∷ xs)) e ∙ ap (λ (rest : List X). y ∷ rest) (take_more xs k x at)

-- ---- names of other nodes

abbrev AreBelow : ℕ → List NodeId → Type 0
AreBelow k names = AllByRecursion (λ (name : NodeId). name.0 < k) names

below_both : (k : ℕ) (xs ys : List NodeId) → AreBelow k xs → AreBelow k ys → AreBelow k (xs ++ ys)
below_both k [] ys a b = b
below_both k (x ∷ xs) ys a b = (a.0, below_both k xs ys a.1 b)

below_same : (k count : ℕ) (name : NodeId) → name.0 < k → AreBelow k (replicate count name)
below_same k zero name low = tt
below_same k (suc count) name low = (low, below_same k count name low)

told_below : (run : Run) (k first start : ℕ) (nodes : List NodeRun) → ((i : ℕ) (node : NodeRun) → slice_get nodes i ≡ Some node → node.node ≡ start + i) → start + first ≤ k → AreBelow k (flat_map (told_of run) (take first nodes))
told_below run k zero start nodes numbers low = tt
told_below run k (suc first) start [] numbers low = tt
told_below run k (suc first) start (node ∷ nodes) numbers low =
    let here = numbers 0 node refl in
    below_both k (told_of run node) (flat_map (told_of run) (take first nodes))
    (below_same k (min (length node.state.said - count_by (is_from (record { 0 = node.node })) run.heard) MAX_TAKEN) (record { 0 = node.node }) (omega (arith, here, low)))
    (told_below run k first (start + 1) nodes (λ i node at. let there = numbers (suc i) node at in omega (arith, there)) (omega (arith, low)))

-- messages of other nodes are none of this one's
others_counted : (runs : List NodeRun) (k : ℕ) (names : List NodeId) (heard next : Messages) → AreBelow k names → after_names runs names heard ≡ Some next → count_by (is_from (name_of k)) next ≡ count_by (is_from (name_of k)) heard
others_counted runs k [] heard next below h = ap (count_by (is_from (name_of k))) (sym (same_Some heard next h))
others_counted runs k (name ∷ names) heard next below h = go (message_of runs heard name) refl h (λ m. others_counted runs k names (heard ++ m ∷ []) next below.1)
  where
    other : (b : Bool) → eqb name.0 k ≡ b → cond {A = ℕ} b 1 0 ≡ 0
    other true e = let same = eqb-true name.0 k e in let low = below.0 in absurd (omega (arith, same, low))
    other false e = refl

    go : (o : Option Message) → message_of runs heard name ≡ o → option_and_then (λ m. after_names runs names (heard ++ m ∷ [])) o ≡ Some next
        → ((m : Message) → after_names runs names (heard ++ m ∷ []) ≡ Some next → count_by (is_from (name_of k)) next ≡ count_by (is_from (name_of k)) (heard ++ m ∷ [])) → count_by (is_from (name_of k)) next ≡ count_by (is_from (name_of k)) heard
    go None e h on = let never : None ≡ Some next = h in absurd cc
    go (Some m) e h on =
        let rest = on m h in
        let last = count_push (is_from (name_of k)) heard m in
        let own = ap {B = ℕ} (λ (n : NodeId). cond (is_from (name_of k) (record { node = n; told = m.told })) 1 0) (message_named runs heard name m e) in
        let none = other (eqb name.0 k) refl in
        omega (arith, rest, last, own, none)

-- ---- node after node

module _ (whole : MachinesAreWhole) (steps : StepByStep) (W : PlainWorkload) (m : Machine) where
  abbrev run : Run
  run = followed W m.journal

  pub heard_none_yet : (nodes : List PlainReplayNode) (coordinator : PlainCoordinator) → AllAt W m nodes coordinator → HeardUpTo W m 0 nodes coordinator
  heard_none_yet nodes coordinator all =
      record {
        next = heard_in W m.journal;
        by = refl;
        all = record { valid = all.valid; reached = all.reached; nodes_are = all.nodes_are; coordinator_is = all.coordinator_is };
      }

  module _ (k : ℕ) (nodes : List PlainReplayNode) (coordinator : PlainCoordinator) (h : HeardUpTo W m k nodes coordinator) (later : List PlainReplayNode) (kept : PlainCoordinator) (node : HearsNode W m h.next k later kept) where
    numbers : (i : ℕ) (node : NodeRun) → slice_get run.nodes i ≡ Some node → node.node ≡ 0 + i
    numbers i node at = let number = ((whole W h.all.valid m h.all.reached).each i node at).number in omega (arith, number)

    names_are : replicate (waiting h.next k node.run) (name_of k) ≡ told_of run node.run
    names_are =
        let number = numbers k node.run node.at in
        let same : k ≡ node.run.node = omega (arith, number) in
        let names = flat_map (told_of run) (take k run.nodes) in
        let counted = others_counted run.nodes k names run.heard h.next (told_below run k k 0 run.nodes numbers (omega arith)) h.by in
        ap (λ (n : ℕ). replicate (min (length node.run.state.said - n) MAX_TAKEN) (name_of k)) counted
        ∙ ap (λ (n : ℕ). replicate (min (length node.run.state.said - count_by (is_from (name_of n)) run.heard) MAX_TAKEN) (name_of n)) same

    pub heard_node_more : HeardUpTo W m (k + 1) later kept
    heard_node_more =
        let one = node.heard_of in
        let more : flat_map (told_of run) (take (k + 1) run.nodes) ≡ flat_map (told_of run) (take k run.nodes) ++ replicate (waiting h.next k node.run) (name_of k) =
        ap (flat_map (told_of run)) (take_more run.nodes k node.run node.at)
        ∙ flat_map-append (told_of run) (take k run.nodes) (node.run ∷ [])
        ∙ ap (λ (names : List NodeId). flat_map (told_of run) (take k run.nodes) ++ names) (append-nil (told_of run node.run) ∙ sym names_are)
        in
        record {
          next = one.next;
          by =
              ap (λ (names : List NodeId). after_names run.nodes names run.heard) more
              ∙ steps.names run.nodes (flat_map (told_of run) (take k run.nodes)) (replicate (waiting h.next k node.run) (name_of k)) run.heard
              ∙ ap (option_and_then (after_names run.nodes (replicate (waiting h.next k node.run) (name_of k)))) h.by
              ∙ one.by;
          all = one.all;
        }

  -- all nodes were heard
  pub heard_through : CoordinatorHearsSo → (k : ℕ) (nodes : List PlainReplayNode) (coordinator : PlainCoordinator) → length nodes ≤ k → HeardUpTo W m k nodes coordinator → AllAt W (coordinator_hears W m) nodes coordinator
  heard_through hears k nodes coordinator low h =
      let new = coordinator_hears W m in
      let c = hears W h.all.valid m h.all.reached in
      let w = whole W h.all.valid m h.all.reached in
      let count = w.count in
      let all = h.all.nodes_are.count in
      let is : h.next ≡ heard_in W new.journal =
      same_Some h.next (heard_in W new.journal) (sym h.by ∙ ap (λ (nodes : List NodeRun). after_names run.nodes (flat_map (told_of run) nodes) run.heard) (take_whole run.nodes k (omega (arith, low, count, all))) ∙ c.heard)
      in
      record {
        valid = h.all.valid;
        reached = Hears m h.all.reached;
        nodes_are = record { count = h.all.nodes_are.count; each = λ n node at. subst (λ (heard : Messages). NodeIsHeard W new heard n node) is (moved n node c.nodes (h.all.nodes_are.each n node at)) };
        coordinator_is = subst (λ (heard : Messages). HasHeard W heard coordinator) is h.all.coordinator_is;
      }
    where
      moved : (n : ℕ) (node : PlainReplayNode) → (followed W (coordinator_hears W m).journal).nodes ≡ run.nodes → NodeIsHeard W m h.next n node → NodeIsHeard W (coordinator_hears W m) h.next n node
      moved n node same i =
          let s = i.stands in
          record {
            run = i.run;
            at = ap (λ (nodes : List NodeRun). slice_get nodes n) same ∙ i.at;
            number = i.number;
            stands = record { sends = s.sends; players = record { count = s.players.count; each = s.players.each }; agent = s.agent; pool = s.pool; asks = s.asks; said = s.said };
          }
