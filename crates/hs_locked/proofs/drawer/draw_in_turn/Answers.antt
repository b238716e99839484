use Rattle.std.proofs.Common.{◌≡◌, [], sym, ap, ◌∙◌}
use Rattle.hs_locked.proofs.Prelude.{PoolEvent, waiting, Store, next_draw, away, drawing, drawer_seat_of, drawer_seat_after, hand_after, without_lease}
use Rattle.hs_locked.proofs.Owed.{Mine}
use Rattle.hs_locked.proofs.Seating.{same_seat, slot_is, drawer_inside, drawer_event, drawer_left, drawer_seat, floor_there}
use Rattle.hs_locked.proofs.drawer.draw_in_turn.Goals as goal

pub leave-requires-clause-one_event : goal.leave-requires-clause-one_event
leave-requires-clause-one_event g c =
    let found = c.enter.ensures.found in
    let drawn = c.draw-drawn.ensures in
    drawer_event c.args.place.now c.enter.new.place found.0 c.slot_mut-store.result.now c.draw-drawn.new.self _ c.requires.seat.idle found.1 found.2 c.slot_mut-store.ensures.value drawn.event drawn.goes_on

pub returns-in-Got-clause-seat : goal.returns-in-Got-clause-seat
returns-in-Got-clause-seat g c =
    let found = c.enter.ensures.found in
    let store = found.0 in
    let s = c.args.place.now in
    let u = c.leave.new.place in
    let event = next_draw (waiting store.pool) in
    let left = drawer_left s c.enter.new.place u store c.requires.seat.idle found.1 c.leave.ensures.did in
    let leased = c.make_lease.ensures in
    drawer_seat _ s c.make_lease.new.place c.args.left store.pool.events event c.requires.seat
    (same_seat s u c.make_lease.new.place (same_seat s c.enter.new.place u c.enter.ensures.same c.leave.ensures.same) leased.seat) (floor_there s store c.requires.seat.idle found.2)
    (leased.did ∙ ap (λ (m : Mine). let n : Mine = (without_lease m.0, m.1) in n) left)

pub returns-in-Empty-clause-seat : goal.returns-in-Empty-clause-seat
returns-in-Empty-clause-seat g c =
    let found = c.enter.ensures.found in
    let store = found.0 in
    let s = c.args.place.now in
    let u = c.leave.new.place in
    let event = next_draw (waiting store.pool) in
    let there = drawer_inside s c.enter.new.place store c.requires.seat.idle found.1 in
    let left = drawer_left s c.enter.new.place u store c.requires.seat.idle found.1 c.leave.ensures.did in
    let same : c.slot_mut-store.result.now ≡ store = slot_is c.enter.new.place.me.1 c.slot_mut-store.result.now store c.slot_mut-store.ensures.value (ap (λ (m : Mine). m.1) there) in
    let empty = c.in-Empty.ensures.event ∙ ap (λ (o : Store). next_draw (waiting o.pool)) same in
    drawer_seat _ s u c.args.left store.pool.events event c.requires.seat (same_seat s c.enter.new.place u c.enter.ensures.same c.leave.ensures.same) (floor_there s store c.requires.seat.idle found.2)
    (left ∙ ap (λ (e : PoolEvent). let m : Mine = (drawing (drawer_seat_after (drawer_seat_of s.me.0) store.pool.events event) (hand_after e store.pool.events) away, []) in m) (sym empty))
