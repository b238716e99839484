use Rattle.hs_law_agent.proofs.Lives.{lists_go_on}
use Rattle.hs_law_agent.proofs.laws.lists_go_on.Goals as goal

pub returns : goal.returns
returns c = lists_go_on
