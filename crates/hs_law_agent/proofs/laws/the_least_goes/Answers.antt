use Rattle.hs_law_agent.proofs.Least.{the_least_goes}
use Rattle.hs_law_agent.proofs.laws.the_least_goes.Goals as goal

pub returns : goal.returns
returns c = the_least_goes
