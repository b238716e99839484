use Rattle.hs_law_run.proofs.Fitting.{machines_fit}
use Rattle.hs_law_run.proofs.lockstep_laws.machines_fit.Goals as goal

pub returns : goal.returns
returns c = machines_fit c.known.ensures c.valid_workloads_run.ensures
