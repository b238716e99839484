use Rattle.hs_law_agent.proofs.Whiles.{events_go_on}
use Rattle.hs_law_agent.proofs.laws.events_go_on.Goals as goal

pub returns : goal.returns
returns c = events_go_on
