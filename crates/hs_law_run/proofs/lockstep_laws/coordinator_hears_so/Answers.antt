use Rattle.hs_law_run.proofs.Hearing.{coordinator_hears_so}
use Rattle.hs_law_run.proofs.lockstep_laws.coordinator_hears_so.Goals as goal

pub returns : goal.returns
returns c = coordinator_hears_so c.known.ensures
