-- Where the passes of a log end, step by step.
use Rattle.std.specs.Prelude.{◌≡◌, ℕ, zero, suc, ◌+◌, List, [], ◌∷◌, if◌then◌else◌, refl}
use Rattle.hs_records.specs.declared.journal.Step.{Step}
use Rattle.hs_records.specs.declared.journal.Step.TheVariants as steps
use Rattle.hs_check_follow.specs.Offering.{ends_front}

-- of the first so many steps, numbered on from here, those behind which a pass ends
abbrev pub ends_within : ℕ → ℕ → List Step → List ℕ
ends_within here zero log = []
ends_within here (suc count) [] = []
ends_within here (suc count) (step ∷ log) = if ends_front (step ∷ log) then (here + 1) ∷ ends_within (here + 1) count log else ends_within (here + 1) count log

two_passes : ends_within 0 4 (steps.Turn ∷ steps.Given 0 ∷ steps.Turn ∷ steps.Unread ∷ []) ≡ 2 ∷ 4 ∷ []
two_passes = refl
