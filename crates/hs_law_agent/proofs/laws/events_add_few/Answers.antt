use Rattle.hs_law_agent.proofs.Bearing.{events_add_few}
use Rattle.hs_law_agent.proofs.laws.events_add_few.Goals as goal

pub returns : goal.returns
returns c = events_add_few
