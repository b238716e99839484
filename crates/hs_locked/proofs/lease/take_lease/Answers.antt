use Rattle.std.proofs.Common.{ap, arith}
use Rattle.hs_locked.proofs.Owed.{Mine, can_take}
use Rattle.hs_locked.proofs.lease.take_lease.Goals as goal

pub join_seat-requires : goal.join_seat-requires
join_seat-requires c =
    (c.requires.seat.0, c.requires.lease.0.0, c.requires.lease.2, omega (arith, c.requires.seat.1), can_take _ _ _ _ _ _ (ap (λ (m : Mine). m.0) c.requires.can) c.requires.lease.1)
