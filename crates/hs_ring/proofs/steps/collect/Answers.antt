use Rattle.std.proofs.Common.{arith, Some, None, ◌∙◌}
use Rattle.hs_ring.proofs.Owed.{carries, exchanged_slot, collect_at}
use Rattle.hs_ring.proofs.steps.collect.Goals as goal

pub exchange-taken-requires : goal.exchange-taken-requires
exchange-taken-requires c = (c.requires.seat.0, (Some c.requires.chunk.0, carries _ _ _ c.requires.chunk.1))

pub overflow_add-entry : goal.overflow_add-entry
overflow_add-entry c = omega (arith, c.requires.seat.3)

pub swap-requires : goal.swap-requires
swap-requires c = (
  c.exchange-taken.ensures.0 ∙ c.requires.seat.0,
  omega (arith, c.requires.seat.1),
  collect_at _ _ _ _ _ _ (exchanged_slot _ _ _ _ None c.requires.chunk.1 c.exchange-taken.ensures.3) c.requires.can,
)
