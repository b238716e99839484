use Rattle.std.proofs.Common.{arith}
use Rattle.hs_locked.proofs.Owed.{leave_at}
use Rattle.hs_locked.proofs.lock.TicketLock.leave.Goals as goal

pub fetch_add-requires : goal.fetch_add-requires
fetch_add-requires c =
    let one = c.requires.one_event in
    (c.requires.at.0, omega (arith, c.requires.at.1), leave_at _ _ _ _ one.0 one.1 c.requires.can one.2 one.3 one.4)
