use Rattle.hs_law_agent.proofs.Adding.{events_add_this}
use Rattle.hs_law_agent.proofs.laws.events_add_this.Goals as goal

pub returns : goal.returns
returns c = events_add_this
