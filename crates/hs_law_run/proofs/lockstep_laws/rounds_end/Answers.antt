use Rattle.hs_law_run.proofs.Ending.{rounds_end}
use Rattle.hs_law_run.proofs.lockstep_laws.rounds_end.Goals as goal

pub returns : goal.returns
returns c = rounds_end c.known.ensures c.valid_workloads_run.ensures
