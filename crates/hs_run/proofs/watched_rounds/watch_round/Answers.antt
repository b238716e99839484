use Rattle.std.proofs.Common.{◌*◌, ap, ◌∙◌}
use Rattle.hs_run.proofs.Prelude.{workload_of, shown_on}
use Rattle.hs_run.proofs.Moments.{met_to}
use Rattle.hs_run.proofs.Rounded.{stand_of}
use Rattle.hs_run.proofs.WatchedRounds.{follows, may_count, next_watched, four_more}
use Rattle.hs_run.proofs.watched_rounds.watch_round.Goals as goal

pub meet_all-requires : goal.meet_all-requires
meet_all-requires g c =
    let W = workload_of c.args.workload.now in
    let h = c.requires.watched.rounds in
    let a = c.in_ok-act_watched.ensures.acted h.moment h.here h.few in
    stand_of W a.next c.act_watched.new.nodes.items c.act_watched.new.coordinator a.here

pub move_all-requires : goal.move_all-requires
move_all-requires g c =
    let W = workload_of c.args.workload.now in
    let h = c.requires.watched.rounds in
    let a = c.in_ok-act_watched.ensures.acted h.moment h.here h.few in
    let b = met_to W a.next c.act_watched.new.nodes.items c.meet_all.new.nodes.items c.act_watched.new.coordinator a.here c.meet_all.ensures in
    (W, b.next, b.here)

pub count-requires : goal.count-requires
count-requires g c =
    let W = workload_of c.args.workload.now in
    let h = c.requires.watched.rounds in
    let a = c.in_ok-act_watched.ensures.acted h.moment h.here h.few in
    let b = met_to W a.next c.act_watched.new.nodes.items c.meet_all.new.nodes.items c.act_watched.new.coordinator a.here c.meet_all.ensures in
    let d = c.in_ok-move_all.ensures W b.next b.here in
    let f =
    follows c.rounds_keep_what_came.ensures c.callers_have_sent.ensures W c.args.made c.args.nodes.now.items c.act_watched.new.nodes.items c.meet_all.new.nodes.items c.move_all.new.nodes.items c.args.coordinator.now
    c.act_watched.new.coordinator c.move_all.new.coordinator h a b d
    in
    may_count W c.args.made c.args.nodes.now.items c.args.coordinator.now c.args.tally.now c.args.watch.now c.requires.watched c.move_all.new.nodes.items c.move_all.new.coordinator f

pub returns : goal.returns
returns g c =
    let W = workload_of c.args.workload.now in
    let h = c.requires.watched.rounds in
    let a = c.in_ok-act_watched.ensures.acted h.moment h.here h.few in
    let b = met_to W a.next c.act_watched.new.nodes.items c.meet_all.new.nodes.items c.act_watched.new.coordinator a.here c.meet_all.ensures in
    let d = c.in_ok-move_all.ensures W b.next b.here in
    let f =
    follows c.rounds_keep_what_came.ensures c.callers_have_sent.ensures W c.args.made c.args.nodes.now.items c.act_watched.new.nodes.items c.meet_all.new.nodes.items c.move_all.new.nodes.items c.args.coordinator.now
    c.act_watched.new.coordinator c.move_all.new.coordinator h a b d
    in
    next_watched W c.args.made c.args.nodes.now.items c.args.coordinator.now c.args.tally.now c.args.watch.now c.requires.watched c.move_all.new.nodes.items c.move_all.new.coordinator f c.count.new.self c.tell.new.watch c.requires.left
    (c.count.ensures.counts f.next.moment f.next.here.stands f.next.here.nodes_are) c.count.ensures.fits
    (c.tell.ensures.shown ∙ c.in_ok-act_watched.ensures.shown ∙ ap (shown_on c.args.made c.args.tally.now) c.in_ok-make_room.ensures.shown)
    (c.tell.ensures.stands (c.in_ok-act_watched.ensures.stands.by (c.in_ok-make_room.ensures.stands c.requires.watched.stands))) c.tell.ensures.last
    (four_more (4 * c.args.made) c.args.watch.now c.make_room.new.self c.act_watched.new.watch c.tell.new.watch c.requires.watched.looks c.in_ok-make_room.ensures.looks c.in_ok-act_watched.ensures.stands.looks c.tell.ensures.looks)
