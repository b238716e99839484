use Rattle.hs_hub.proofs.SureLives.{sure_said}
use Rattle.hs_hub.proofs.laws.whole_is_said_of_sure_lives.Goals as goal

pub returns : goal.returns
returns c = sure_said
