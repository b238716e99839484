use Rattle.hs_run.proofs.Prelude.{IfOk-weaker, workload_of}
use Rattle.hs_run.proofs.WatchedEnd.{have_shown}
use Rattle.hs_run.proofs.watching.play_watched.Goals as goal

pub finish-requires : goal.finish-requires
finish-requires g c = c.in_ok-watch_rounds.ensures.over

pub returns : goal.returns
returns g c =
    let W = workload_of c.args.workload.now in
    let nodes = c.watch_rounds.new.nodes.items in
    let w = c.in_ok-watch_rounds.ensures in
    IfOk-weaker c.finish.result _ _ (λ books is. (is.0, is.1, have_shown c.shown_is_seen.ensures W nodes c.watch_rounds.new.coordinator c.watch_rounds.new.watch w c.requires.valid is.0 is.2)) (c.finish.ensures.rounds w.over)
