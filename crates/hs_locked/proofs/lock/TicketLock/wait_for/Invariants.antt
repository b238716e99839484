use Rattle.std.proofs.Common.{◌≡◌}
use Rattle.hs_locked.proofs.Prelude.{IsSameSeat}
use Rattle.hs_locked.proofs.lock.TicketLock.wait_for.Given as goal

-- a look that came too early changes nothing
abbrev pub invariant-loop : goal.invariant-loop
invariant-loop g l = IsSameSeat l.initial.place l.place × (l.place.me ≡ l.initial.place.me)
