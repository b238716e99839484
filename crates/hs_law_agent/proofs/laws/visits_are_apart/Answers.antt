use Rattle.hs_law_agent.proofs.Apart.{visits_are_apart}
use Rattle.hs_law_agent.proofs.laws.visits_are_apart.Goals as goal

pub returns : goal.returns
returns c = visits_are_apart
