use Rattle.std.proofs.lemmas.Result.{IfOk-weaker}
use Rattle.hs_records.specs.Views.{workload_of}
use Rattle.hs_cli.proofs.answer.ran.Goals as goal

pub outcome_parts-requires : goal.outcome_parts-requires
outcome_parts-requires g c =
    let (J, lawful, come) = c.in_ok-outcome.ensures in
    (workload_of c.args.workload, J, c.requires, lawful, come)

pub returns : goal.returns
returns g c =
    let W = workload_of c.args.workload in
    let (J, lawful, come) = c.in_ok-outcome.ensures in
    IfOk-weaker c.outcome_parts.result _ _ (λ parts is. (J, lawful, is W J c.requires lawful come)) c.outcome_parts.ensures.text
