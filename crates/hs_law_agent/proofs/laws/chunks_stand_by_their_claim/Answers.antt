use Rattle.hs_law_agent.proofs.Claims.{chunks_stand_by_their_claim}
use Rattle.hs_law_agent.proofs.laws.chunks_stand_by_their_claim.Goals as goal

pub returns : goal.returns
returns c = chunks_stand_by_their_claim
