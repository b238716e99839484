use Rattle.std.proofs.Common.{ap, length, arith}
use Rattle.hs_ring.proofs.Prelude.{GiverSeat}
use Rattle.hs_ring.specs.Parts.{Giving}
use Rattle.hs_ring.proofs.Closings.{answers_length}
use Rattle.hs_ring.proofs.closing.close_ends.Goals as goal

pub count-requires-clause-all : goal.count-requires-clause-all
count-requires-clause-all c =
    let post = c.close_drawers.ensures.closed in
    let made = ap (λ (p : GiverSeat). p.made) post in
    let closed = ap (λ (p : GiverSeat). length p.closed) post in
    let drawers = ap (λ (g : Giving). g.drawers) c.giver.view_is in
    omega (arith, answers_length c.args.drawers.items, c.requires.all)
