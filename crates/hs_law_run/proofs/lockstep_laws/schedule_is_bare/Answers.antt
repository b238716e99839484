use Rattle.hs_law_run.proofs.Closing.{schedule_is_bare}
use Rattle.hs_law_run.proofs.lockstep_laws.schedule_is_bare.Goals as goal

pub returns : goal.returns
returns c = schedule_is_bare c.known.ensures
