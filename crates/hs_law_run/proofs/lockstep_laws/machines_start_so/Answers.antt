use Rattle.hs_law_run.proofs.Starting.{machines_start_so}
use Rattle.hs_law_run.proofs.lockstep_laws.machines_start_so.Goals as goal

pub returns : goal.returns
returns c = machines_start_so c.known.ensures
