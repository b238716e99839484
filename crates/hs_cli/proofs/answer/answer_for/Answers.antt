use Rattle.hs_records.specs.Views.{workload_of}
use Rattle.hs_cli.proofs.Answering.{done_answers}
use Rattle.hs_cli.proofs.answer.answer_for.Goals as goal

pub returns-in_ok-replayed-in-Replay : goal.returns-in_ok-replayed-in-Replay
returns-in_ok-replayed-in-Replay g c =
    done_answers _ _ (workload_of c.args.workload) c.args.journal.now _ _ _ c.in-Replay.is c.done_with.ensures.status c.done_with.ensures.text c.in_ok-replayed-in-Replay.ensures

pub returns-in_ok-ran-in-Run : goal.returns-in_ok-ran-in-Run
returns-in_ok-ran-in-Run g c =
    done_answers _ _ (workload_of c.args.workload) c.args.journal.now _ _ _ c.in-Run.is c.done_with-in-Run.ensures.status c.done_with-in-Run.ensures.text c.in_ok-ran-in-Run.ensures
