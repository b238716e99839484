use Rattle.std.proofs.Common.{arith}
use Rattle.hs_ring.proofs.Owed.{can_take}
use Rattle.hs_ring.proofs.steps.take_lease.Goals as goal

pub join_seat-requires : goal.join_seat-requires
join_seat-requires c = (c.requires.seat.0, c.requires.lease.0.0, c.requires.lease.2, omega (arith, c.requires.seat.1), can_take _ _ _ _ _ c.requires.can c.requires.lease.1)
