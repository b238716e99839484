use Rattle.hs_law_agent.proofs.Limits.{limits_hold}
use Rattle.hs_law_agent.proofs.laws.limits_hold.Goals as goal

pub returns : goal.returns
returns c = limits_hold
