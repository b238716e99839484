use Rattle.std.proofs.Common.{arith}
use Rattle.hs_locked.proofs.Owed.{can_take_ticket}
use Rattle.hs_locked.proofs.lock.TicketLock.take_ticket.Goals as goal

pub fetch_add-requires : goal.fetch_add-requires
fetch_add-requires c = (c.requires.at.0, omega (arith, c.requires.at.1), can_take_ticket _ _ _ _ _ c.requires.can.0 c.requires.can.1)
