use Rattle.hs_sched.proofs.FairnessLemmas.{visits_fair}
use Rattle.hs_sched.proofs.laws.visits_are_fair.Goals as goal

pub returns : goal.returns
returns c = visits_fair
