use Rattle.hs_law_run.proofs.Standing.{machines_are_whole}
use Rattle.hs_law_run.proofs.lockstep_laws.machines_are_whole.Goals as goal

pub returns : goal.returns
returns c = machines_are_whole c.known.ensures c.valid_workloads_run.ensures
