use Rattle.hs_law_run.proofs.Pools.{are_histories}
use Rattle.hs_law_run.proofs.laws.doings_are_histories.Goals as goal

pub returns : goal.returns
returns c = are_histories c.doings_are_followed.ensures
