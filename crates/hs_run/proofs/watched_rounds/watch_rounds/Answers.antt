use Rattle.std.proofs.Common.{◌<◌, ◌-◌, ◌+◌, subst, arith}
use Rattle.hs_run.proofs.Prelude.{MAX_OPERATIONS, workload_of, TellsLeft}
use Rattle.hs_run.proofs.Rounded.{whole_of, left_low}
use Rattle.hs_run.proofs.WatchedRounds.{begin_watched, may_show, all_watched, on_three}
use Rattle.hs_run.proofs.watched_rounds.watch_rounds.Goals as goal

pub rounds-init : goal.rounds-init
rounds-init g c =
    begin_watched c.no_rounds_come.ensures (workload_of c.args.workload.now) c.args.nodes.now.items c.args.coordinator.now c.requires.all c.in_ok-tally.tally c.args.watch.now c.requires.begins.0 c.requires.begins.1 c.requires.begins.2
    c.in_ok-tally.ensures

pub has_left-requires : goal.has_left-requires
has_left-requires g c = let h = c.rounds.invariant.rounds in whole_of (workload_of c.args.workload.now) h.moment c.rounds.nodes.items c.rounds.coordinator h.here

pub overflow_add-made : goal.overflow_add-made
overflow_add-made g c =
    let low = left_low (workload_of c.args.workload.now) c.rounds.made c.rounds.nodes.items c.rounds.coordinator c.rounds.invariant.rounds (subst (TellsLeft (workload_of c.args.workload.now) c.rounds.nodes.items) c.rounds-test.true c.has_left.ensures) in
    omega (arith, low)

pub rounds-smaller : goal.rounds-smaller
rounds-smaller g c =
    let low = left_low (workload_of c.args.workload.now) c.rounds.made c.rounds.nodes.items c.rounds.coordinator c.rounds.invariant.rounds (subst (TellsLeft (workload_of c.args.workload.now) c.rounds.nodes.items) c.rounds-test.true c.has_left.ensures) in
    let less : MAX_OPERATIONS - (c.rounds.made + 1) < MAX_OPERATIONS - c.rounds.made = omega (arith, low) in
    less

pub end_watch-requires-clause-show : goal.end_watch-requires-clause-show
end_watch-requires-clause-show g c = may_show (workload_of c.args.workload.now) c.rounds.made c.rounds.nodes.items c.rounds.coordinator c.rounds.tally c.rounds.watch c.rounds.invariant

pub returns : goal.returns
returns g c =
    let W = workload_of c.args.workload.now in
    on_three c.end_watch.result _ _ _ _
    (all_watched W c.rounds.made c.rounds.nodes.items c.rounds.coordinator c.rounds.tally c.rounds.watch c.rounds.invariant c.these_are_all_rounds.ensures
    (subst (TellsLeft W c.rounds.nodes.items) c.rounds-test.false c.has_left.ensures) c.end_watch.new.watch)
    c.end_watch.ensures.shown c.end_watch.ensures.ended c.end_watch.ensures.looks
