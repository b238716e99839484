use Rattle.hs_law_run.proofs.Standing.{machines_lead_on}
use Rattle.hs_law_run.proofs.lockstep_laws.machines_lead_on.Goals as goal

pub returns : goal.returns
returns c = machines_lead_on
