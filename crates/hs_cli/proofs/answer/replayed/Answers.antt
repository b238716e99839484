use Rattle.std.proofs.Common.{refl}
use Rattle.std.proofs.lemmas.Result.{IfOk-weaker}
use Rattle.hs_law_run.specs.Lockstep.{lockstep}
use Rattle.hs_records.specs.Views.{workload_of}
use Rattle.hs_cli.proofs.answer.replayed.Goals as goal

pub outcome_parts-requires : goal.outcome_parts-requires
outcome_parts-requires c =
    let W = workload_of c.args.workload in
    (W, lockstep W, c.requires, c.schedule_is_lawful.ensures W c.requires, c.in_ok-outcome.ensures)

pub returns : goal.returns
returns c =
    let W = workload_of c.args.workload in
    let lawful = c.schedule_is_lawful.ensures W c.requires in
    IfOk-weaker c.outcome_parts.result _ _ (λ parts is. (lockstep W, lawful, refl, is W (lockstep W) c.requires lawful c.in_ok-outcome.ensures)) c.outcome_parts.ensures.text
