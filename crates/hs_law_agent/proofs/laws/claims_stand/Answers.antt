use Rattle.hs_law_agent.proofs.Lives.{claims_stand_until_forgotten}
use Rattle.hs_law_agent.proofs.laws.claims_stand.Goals as goal

pub returns : goal.returns
returns c = claims_stand_until_forgotten
