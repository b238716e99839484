use Rattle.hs_law_agent.proofs.Unevicted.{nothing_claimed_is_evicted}
use Rattle.hs_law_agent.proofs.laws.nothing_claimed_is_evicted.Goals as goal

pub returns : goal.returns
returns c = nothing_claimed_is_evicted
