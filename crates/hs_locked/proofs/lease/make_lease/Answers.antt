use Rattle.std.proofs.Common.{arith}
use Rattle.hs_locked.proofs.Owed.{can_lease}
use Rattle.hs_locked.proofs.lease.make_lease.Goals as goal

pub split_seat-requires : goal.split_seat-requires
split_seat-requires c = (c.requires.seat.0, omega (arith, c.requires.seat.1), can_lease _ _ _ c.requires.can.0 c.requires.can.1)
