use Rattle.hs_law_agent.proofs.Whiles.{abandons_while_over}
use Rattle.hs_law_agent.proofs.laws.abandons_while_over.Goals as goal

pub returns : goal.returns
returns c = abandons_while_over
