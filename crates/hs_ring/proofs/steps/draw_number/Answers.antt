use Rattle.std.proofs.Common.{arith}
use Rattle.hs_ring.proofs.Owed.{can_draw}
use Rattle.hs_ring.proofs.steps.draw_number.Goals as goal

pub fetch_add-requires : goal.fetch_add-requires
fetch_add-requires c = (c.requires.seat.0, omega (arith, c.requires.seat.1), can_draw _ _ _ _ _ c.requires.can)
