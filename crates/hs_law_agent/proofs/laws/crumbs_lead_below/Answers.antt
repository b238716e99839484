use Rattle.hs_law_agent.proofs.Leading.{crumbs_lead_below}
use Rattle.hs_law_agent.proofs.laws.crumbs_lead_below.Goals as goal

pub returns : goal.returns
returns c = crumbs_lead_below
