use Rattle.hs_law_run.proofs.Fitting.{clients_go_so}
use Rattle.hs_law_run.proofs.lockstep_laws.clients_go_so.Goals as goal

pub returns : goal.returns
returns c = clients_go_so c.known.ensures c.valid_workloads_run.ensures
