-- The first passes of a log.
use Rattle.std.proofs.Common.{List, take, ap, ◌∙◌}
use Rattle.hs_run.proofs.Prelude.{flat_map, Step}
use Rattle.hs_law_journal.proofs.Joined.{steps_joined}
use Rattle.hs_law_journal.proofs.Passes.{passes_are}
use Rattle.hs_run.specs.FirstPasses.{FirstPassesAreNoted}

pub first_noted : FirstPassesAreNoted
first_noted W passes all k = ap (λ (l : List (List Step)). flat_map (λ pass. pass) (take k l)) (passes_are W passes all) ∙ steps_joined k passes
