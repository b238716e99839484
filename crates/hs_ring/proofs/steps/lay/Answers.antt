use Rattle.std.proofs.Common.{arith}
use Rattle.hs_ring.proofs.Owed.{can_lay}
use Rattle.hs_ring.proofs.steps.lay.Goals as goal

pub compare_exchange-requires : goal.compare_exchange-requires
compare_exchange-requires c = (c.requires.seat.0, omega (arith, c.requires.seat.1), can_lay _ _ _ _ _ _ _ c.requires.can c.requires.entry)
