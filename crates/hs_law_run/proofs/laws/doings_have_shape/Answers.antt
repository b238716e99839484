use Rattle.hs_law_run.proofs.Clauses.{have_shape}
use Rattle.hs_law_run.proofs.laws.doings_have_shape.Goals as goal

pub returns : goal.returns
returns c = have_shape
