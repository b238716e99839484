use Rattle.hs_law_agent.proofs.Saying.{steps_say_what_they_tell}
use Rattle.hs_law_agent.proofs.laws.steps_say_what_they_tell.Goals as goal

pub returns : goal.returns
returns c = steps_say_what_they_tell
