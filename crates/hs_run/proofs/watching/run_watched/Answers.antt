use Rattle.hs_run.proofs.Prelude.{workload_of}
use Rattle.hs_run.proofs.WatchedEnd.{all_seen}
use Rattle.hs_run.proofs.watching.run_watched.Goals as goal

pub returns : goal.returns
returns g c =
    let W = workload_of c.args.workload.now in
    let (J, books, shown) = c.in_ok-books.ensures in
    let e = shown.ended in (
      J,
      books.lawful,
      c.in_ok-outcome.ensures W J books,
      all_seen W J c.play_watched-played.new.watch shown c.in_ok-seen.seen.items c.in_ok-seen.ensures.count (c.in_ok-seen.ensures.seen e.stands e.knows e.ends),
    )
