use Rattle.std.proofs.Common.{inr, refl}
use Rattle.hs_workload.proofs.Streams.{both_finished, front_of_both}
use Rattle.hs_workload.proofs.writing.finish_both.Goals as goal

pub returns-in-Ok : goal.returns-in-Ok
returns-in-Ok g c = both_finished c.args.status c.finish.result _ _ _ _ _ _ c.args.front.now c.args.behind.now c.in-Ok.ensures.ok c.in-Ok.ensures.still c.finish.ensures

pub returns-in-Err : goal.returns-in-Err
returns-in-Err g c = inr (refl, c.in-Err.ensures.failed, front_of_both _ _ c.args.front.now c.args.behind.now c.in-Err.ensures.front)
