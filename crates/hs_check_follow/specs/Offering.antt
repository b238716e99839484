-- Whether all offers are made, step by step: the last step of each pass is an offer that was unread, or the hand is empty behind it,
-- and no other step is an unread offer.
use Rattle.std.specs.Prelude.{◌≡◌, ℕ, Bool, true, false, not, ◌&&◌, ◌||◌, ◌==◌, List, [], ◌∷◌, if◌then◌else◌, refl}
use Rattle.hs_records.specs.declared.journal.Step.{Step}
use Rattle.hs_records.specs.declared.journal.Step.TheVariants as steps
use Rattle.hs_law_journal.specs.Passes.{ends_between, is_unread}

-- whether a pass ends with the first of these steps
abbrev pub ends_front : List Step → Bool
ends_front [] = true
ends_front (step ∷ []) = true
ends_front (step ∷ next ∷ log) = ends_between step next

-- whether a step may stand where it is, the last one of its pass or not, with so many buffers left in the hand behind the pass
abbrev pub may_stand : Bool → Step → ℕ → Bool
may_stand last step hand = if last then (is_unread step || hand == 0) else not (is_unread step)

-- whether the offers of these steps are all made, where the hand has so many buffers behind each pass
abbrev pub ends_through : List Step → List ℕ → Bool
ends_through [] hands = true
ends_through (step ∷ log) [] = true
ends_through (step ∷ log) (hand ∷ hands) =
    may_stand (ends_front (step ∷ log)) step hand && ends_through log (if ends_front (step ∷ log) then hands else hand ∷ hands)

-- the first pass leaves an empty hand, and the second one ends with an unread offer
two_passes : (ends_through (steps.Turn ∷ steps.Given 0 ∷ steps.Turn ∷ steps.Unread ∷ []) (0 ∷ 1 ∷ []) ≡ true)
    × (ends_through (steps.Turn ∷ steps.Given 0 ∷ steps.Turn ∷ steps.Unread ∷ []) (1 ∷ 1 ∷ []) ≡ false)
    × (ends_through (steps.Turn ∷ steps.Unread ∷ steps.Given 0 ∷ []) (0 ∷ []) ≡ false)
two_passes = (refl, refl, refl)
