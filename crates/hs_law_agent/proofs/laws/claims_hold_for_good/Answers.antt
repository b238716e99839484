use Rattle.hs_law_agent.proofs.Claims.{claims_hold_for_good}
use Rattle.hs_law_agent.proofs.laws.claims_hold_for_good.Goals as goal

pub returns : goal.returns
returns c = claims_hold_for_good
