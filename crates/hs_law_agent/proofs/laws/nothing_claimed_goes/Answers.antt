use Rattle.hs_law_agent.proofs.Lives.{nothing_claimed_goes}
use Rattle.hs_law_agent.proofs.laws.nothing_claimed_goes.Goals as goal

pub returns : goal.returns
returns c = nothing_claimed_goes
