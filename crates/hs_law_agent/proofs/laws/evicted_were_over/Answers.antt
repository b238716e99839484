use Rattle.hs_law_agent.proofs.WereOver.{evicted_were_over}
use Rattle.hs_law_agent.proofs.laws.evicted_were_over.Goals as goal

pub returns : goal.returns
returns c = evicted_were_over
