-- The state of an agent behind the first passes of its log is the one behind the events of these passes.
use Rattle.std.proofs.Common.{◌≡◌, ℕ, zero, suc, List, [], ◌∷◌, ◌++◌, length, take, refl, sym, ap, ◌∙◌, map}
use Rattle.hs_law_run.proofs.Prelude.{AllByRecursion, length-map, map-append, take-map, PlainJournal, noted_as, EventsAddThis, AgentEvent, after, PlainWorkload, passes_of, steps_in, state_behind, joined, NodeDoings, all_events, steps_of, state_after, node_at_end, IsPass, passes_are}
use Rattle.hs_law_run.proofs.Nodes.{own_log}

take_behind : {X : Type 0} (front some all : List X) → take (length some) all ≡ some → take (length (front ++ some)) (front ++ all) ≡ front ++ some
take_behind [] some all h = h
take_behind (x ∷ front) some all h = ap (λ rest. x ∷ rest) (take_behind front some all h)

pub take_joined : {X : Type 0} (lists : List (List X)) (k : ℕ) → take (length (joined (take k lists))) (joined lists) ≡ joined (take k lists)
take_joined lists zero = refl
take_joined [] (suc k) = refl
take_joined (x ∷ lists) (suc k) = take_behind x (joined (take k lists)) (joined lists) (take_joined lists k)

-- the steps of passes, one behind another
pub steps_joined : (passes : List (List AgentEvent)) → joined (map steps_of passes) ≡ steps_of (joined passes)
steps_joined [] = refl
steps_joined (pass ∷ passes) = ap (λ rest. steps_of pass ++ rest) (steps_joined passes) ∙ sym (map-append noted_as pass (joined passes))

module _ (adds : EventsAddThis) (W : PlainWorkload) (J : PlainJournal) (n : NodeDoings) (each : AllByRecursion (IsPass W) n.passes) where
  -- its passes are those of the log
  pub log_passes : passes_of (node_at_end W J n).state.log ≡ map steps_of n.passes
  log_passes = ap passes_of (own_log adds W.settings n.node (all_events n)) ∙ passes_are W n.passes each

  -- and behind the first so many of them it stands as their events lead to
  pub state_there : (k : ℕ) → state_behind W.settings (node_at_end W J n) (steps_in (map steps_of n.passes) k) ≡ state_after W.settings n k
  state_there k =
      ap (λ events. after W.settings n.node events)
      (ap (λ m. take m (all_events n)) (ap (λ steps. length (joined steps)) (take-map steps_of k n.passes) ∙ ap length (steps_joined (take k n.passes)) ∙ length-map (joined (take k n.passes)) noted_as)
      ∙ take_joined n.passes k)
