use Rattle.hs_law_journal.proofs.RunsFit.{runs_fit}
use Rattle.hs_law_journal.proofs.laws.runs_fit.Goals as goal

pub returns : goal.returns
returns c = runs_fit c.known.ensures c.crumbs_lead_below.ensures
