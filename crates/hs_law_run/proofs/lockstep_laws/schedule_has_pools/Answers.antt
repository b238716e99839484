use Rattle.hs_law_run.proofs.LockstepPools.{schedule_has_stamps, schedule_has_history, schedule_has_answers}
use Rattle.hs_law_run.proofs.lockstep_laws.schedule_has_pools.Goals as goal

pub returns : goal.returns
returns c = let known = c.known.ensures in record { stamps = schedule_has_stamps known; history = schedule_has_history known; answers = schedule_has_answers known }
