use Rattle.hs_law_run.proofs.Clauses.{are_enough}
use Rattle.hs_law_run.proofs.laws.doings_are_enough.Goals as goal

pub returns : goal.returns
returns c = are_enough
