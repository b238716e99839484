use Rattle.std.proofs.Common.{◌≡◌, length, ap, ◌∙◌, arith}
use Rattle.hs_ring.proofs.Prelude.{answers_in, GiverSeat, giver_seat_of}
use Rattle.hs_ring.specs.Seats.{IsNext}
use Rattle.hs_ring.proofs.Owed.{Mine}
use Rattle.hs_ring.proofs.Givers.{at_there, still_giver, post_laid, post_taken}
use Rattle.hs_ring.proofs.giver.give_to.Goals as goal

pub returns-clause-seat : goal.returns-clause-seat
returns-clause-seat c =
    let table = c.args.entries.now.table_id in
    let laid = c.if-not-lay.ensures.did in
    let same : giver_seat_of c.lay.new.place.me.0 ≡ giver_seat_of c.args.place.now.me.0 =
    ap (λ (m : Mine). giver_seat_of m.0) laid ∙ post_laid c.take_lease.new.place.me.0 ∙ ap (λ (m : Mine). giver_seat_of m.0) c.take_lease.ensures.did ∙ post_taken c.args.place.now.me.0 c.lease.inside.place.me.0 in
    let next : IsNext table.slots c.args.number (giver_seat_of c.lay.new.place.me.0) =
    (let turns = ap (λ (p : GiverSeat). length (answers_in p.turns)) same in let p = c.requires.seat.published_is in let h = c.requires.seat.halves in omega arith) in
    let misses = ap (λ (p : GiverSeat). p.misses) same in
    still_giver table c.args.place.now c.lay.new.place c.publish_or_retake.new.place c.args.buffers c.args.number c.lease.inside.mark c.clear.new.self c.publish_or_retake.result c.requires.seat
    (at_there table c.take_lease.new.place c.lay.new.place (at_there table c.args.place.now c.take_lease.new.place c.requires.seat.at c.take_lease.ensures.seat) c.lay.ensures.seat) same c.publish_or_retake.ensures.same c.publish_or_retake.ensures.published
    (c.publish_or_retake.ensures.few c.args.number next) (let m = c.publish_or_retake.ensures.misses in omega arith)
