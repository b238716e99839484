use Rattle.hs_law_run.proofs.Valid.{valid_workloads_run}
use Rattle.hs_law_run.proofs.lockstep_laws.valid_workloads_run.Goals as goal

pub returns : goal.returns
returns c = valid_workloads_run
