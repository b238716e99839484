use Rattle.std.proofs.Common.{◌≡◌, ℕ, ◌+◌, ◌<◌, ◌≤◌, Bool, true, false, List, [], length, drop, get_or, refl, sym, ap, ◌∙◌, arith}
use Rattle.hs_check_follow.proofs.Prelude.{OnTrue_at, drop_all, get_or_default, StampedEvent, events_below, earlier_with}
use Rattle.hs_check_follow.specs.declared.happened.NotedEvent.TheVariants as happenings
use Rattle.hs_check_follow.proofs.Histories.{history_from, history_is, below_more, below_fails, one_longer}
use Rattle.hs_check_follow.proofs.history.may_happen.Goals as goal

pub loop-event-init : goal.loop-event-init
loop-event-init c = ([], c.in_ok-replay.ensures, history_is c.args.buffers (events_below c.args.bound c.args.events.now), omega arith)

pub take_event_below-requires : goal.take_event_below-requires
take_event_below-requires c =
    let (earlier, at, rest, few) = c.loop-event.invariant in
    (c.args.buffers, earlier, at, omega (arith, few))

pub loop-event-preserved : goal.loop-event-preserved
loop-event-preserved c =
    let (earlier, at, rest, few) = c.loop-event.invariant in
    let events = c.args.events.now in
    let i = c.loop-event.event-index in
    let went = c.in_ok-take_event_below.ensures c.args.buffers earlier at in
    let may = sym went.0 ∙ c.if-not-branch.false in
    let t : StampedEvent = get_or events i (record { stamp = 0; event = happenings.Got 0 }) in
    let long = one_longer c.args.buffers c.args.bound events i t c.loop-event-test.true (get_or_default events i _ _ c.loop-event-test.true) earlier in (
      earlier_with c.args.bound t earlier,
      OnTrue_at c.if-not-branch.false went.1,
      below_more c.args.buffers c.args.bound events i _ c.loop-event-test.true (get_or_default events i _ _ c.loop-event-test.true) earlier _ may rest,
      omega (arith, long, few),
    )

pub returns-then-not-branch : goal.returns-then-not-branch
returns-then-not-branch c =
    let (earlier, at, rest, few) = c.loop-event.invariant in
    let events = c.args.events.now in
    let i = c.loop-event.event-index in
    let went = c.in_ok-take_event_below.ensures c.args.buffers earlier at in
    let may = sym went.0 ∙ c.if-not-branch.true in
    below_fails c.args.buffers c.args.bound events i _ c.loop-event-test.true (get_or_default events i _ _ c.loop-event-test.true) earlier _ may rest

pub returns : goal.returns
returns c =
    let (earlier, at, rest, few) = c.loop-event.invariant in
    sym (ap (λ (l : List StampedEvent). history_from c.args.buffers earlier (events_below c.args.bound l)) (drop_all c.loop-event.event-index c.args.events.now c.loop-event-test.false)) ∙ rest
