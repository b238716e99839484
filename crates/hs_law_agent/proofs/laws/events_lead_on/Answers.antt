use Rattle.hs_law_agent.proofs.Lives.{events_lead_on}
use Rattle.hs_law_agent.proofs.laws.events_lead_on.Goals as goal

pub returns : goal.returns
returns c = events_lead_on
