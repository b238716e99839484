use Rattle.std.proofs.Common.{sym, ap, ◌∙◌, subst, arith}
use Rattle.hs_locked.proofs.Prelude.{MayTurn, StandsQueued, stand_of}
use Rattle.hs_locked.proofs.Owed.{Mine, look_at}
use Rattle.hs_locked.proofs.lock.TicketLock.wait_for.Goals as goal

pub load-requires : goal.load-requires
load-requires g c =
    let inv = c.loop.invariant in
    let is = inv.1 in (
      inv.0.0 ∙ c.requires.at.0,
      omega (arith, c.requires.at.1),
      look_at _ _ _ _ (subst (λ (m : Mine). MayTurn m.0) (sym is) c.requires.can.0) (subst (λ (m : Mine). StandsQueued (stand_of m.0)) (sym is) c.requires.can.1) (ap (λ (m : Mine). m.1) is ∙ c.requires.can.2),
    )
