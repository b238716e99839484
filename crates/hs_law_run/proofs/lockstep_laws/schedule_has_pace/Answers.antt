use Rattle.hs_law_run.proofs.LockstepLawful.{schedule_has_pace}
use Rattle.hs_law_run.proofs.lockstep_laws.schedule_has_pace.Goals as goal

pub returns : goal.returns
returns c = schedule_has_pace c.known.ensures c.the_first_operations_send.ensures c.the_first_chunks_are_sent.ensures c.doings_are_in_pace.ensures
