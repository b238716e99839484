use Rattle.hs_law_agent.proofs.Claims.{traces_are_claimed_once}
use Rattle.hs_law_agent.proofs.laws.traces_are_claimed_once.Goals as goal

pub returns : goal.returns
returns c = traces_are_claimed_once
