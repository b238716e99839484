use Rattle.std.proofs.lemmas.Result.{IfOk-weaker}
use Rattle.hs_records.specs.Views.{workload_of}
use Rattle.hs_run.specs.Ended.{items_of}
use Rattle.hs_cli.proofs.watching.answer_watched.Goals as goal

pub watched_text-requires : goal.watched_text-requires
watched_text-requires g c =
    let (J, lawful, come, seen) = c.in_ok-watched.ensures in
    (workload_of c.args.workload.now, J, c.requires, lawful, come)

pub returns : goal.returns
returns g c =
    let (J, lawful, come, seen) = c.in_ok-watched.ensures in
    IfOk-weaker c.watched_text.result _ _ (λ text is. (J, items_of c.in_ok-watched.watched.seen.items, lawful, seen, is (workload_of c.args.workload.now) J c.requires lawful come)) c.watched_text.ensures
