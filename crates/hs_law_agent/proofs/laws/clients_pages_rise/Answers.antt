use Rattle.hs_law_agent.proofs.PageOrder.{clients_pages_rise}
use Rattle.hs_law_agent.proofs.laws.clients_pages_rise.Goals as goal

pub returns : goal.returns
returns c = clients_pages_rise
