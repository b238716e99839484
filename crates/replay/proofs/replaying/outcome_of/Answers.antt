use Rattle.std.proofs.lemmas.Result.{IfOk-weaker}
use Rattle.hs_law_run.specs.Lockstep.{lockstep}
use Rattle.hs_records.specs.Views.{workload_of}
use Rattle.replay.proofs.replaying.outcome_of.Goals as goal

pub write_lines-requires : goal.write_lines-requires
write_lines-requires c =
    let W = workload_of c.args.workload.now in
    (W, lockstep W, c.requires, c.schedule_is_lawful.ensures W c.requires, c.in_ok-outcome.ensures)

pub returns : goal.returns
returns c =
    let W = workload_of c.args.workload.now in
    IfOk-weaker c.write_lines.result _ _ (λ text written. written W (lockstep W) c.requires (c.schedule_is_lawful.ensures W c.requires) c.in_ok-outcome.ensures) c.write_lines.ensures
