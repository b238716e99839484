use Rattle.hs_law_agent.proofs.Whiles.{evicts_while_over}
use Rattle.hs_law_agent.proofs.laws.evicts_while_over.Goals as goal

pub returns : goal.returns
returns c = evicts_while_over
