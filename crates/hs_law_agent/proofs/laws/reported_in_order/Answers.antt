use Rattle.hs_law_agent.proofs.Ordered.{reported_in_order}
use Rattle.hs_law_agent.proofs.laws.reported_in_order.Goals as goal

pub returns : goal.returns
returns c = reported_in_order
