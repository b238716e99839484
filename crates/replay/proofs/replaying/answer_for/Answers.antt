use Rattle.std.proofs.Common.{refl}
use Rattle.hs_law_run.specs.Lockstep.{lockstep}
use Rattle.hs_records.specs.Views.{workload_of}
use Rattle.replay.proofs.replaying.answer_for.Goals as goal

pub returns-in_ok-outcome_of-in-Ok : goal.returns-in_ok-outcome_of-in-Ok
returns-in_ok-outcome_of-in-Ok c =
    let W = workload_of c.in-Ok.workload in
    let reads = c.in-Ok.ensures.found in
    (W, reads, (lockstep W, c.schedule_is_lawful.ensures W reads.valid, refl, c.in_ok-outcome_of-in-Ok.ensures))
