use Rattle.hs_law_run.proofs.LockstepLawful.{schedule_is_doings}
use Rattle.hs_law_run.proofs.lockstep_laws.schedule_is_doings.Goals as goal

pub returns : goal.returns
returns c = schedule_is_doings c.known.ensures
