use Rattle.hs_law_run.proofs.Pools.{are_stamped}
use Rattle.hs_law_run.proofs.laws.doings_are_stamped.Goals as goal

pub returns : goal.returns
returns c = are_stamped
