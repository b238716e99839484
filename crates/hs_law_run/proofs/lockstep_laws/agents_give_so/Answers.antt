use Rattle.hs_law_run.proofs.Fitting.{agents_give_so}
use Rattle.hs_law_run.proofs.lockstep_laws.agents_give_so.Goals as goal

pub returns : goal.returns
returns c = agents_give_so c.known.ensures c.valid_workloads_run.ensures
