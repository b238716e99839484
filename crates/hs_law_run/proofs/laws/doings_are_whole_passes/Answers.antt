use Rattle.hs_law_run.proofs.Clauses.{are_whole_passes}
use Rattle.hs_law_run.proofs.laws.doings_are_whole_passes.Goals as goal

pub returns : goal.returns
returns c = are_whole_passes
