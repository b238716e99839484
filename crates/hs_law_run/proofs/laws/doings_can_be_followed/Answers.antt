use Rattle.hs_law_run.proofs.Clauses.{can_be_followed}
use Rattle.hs_law_run.proofs.laws.doings_can_be_followed.Goals as goal

pub returns : goal.returns
returns c = can_be_followed c.doings_are_followed.ensures
