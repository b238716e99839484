use Rattle.std.proofs.Common.{arith, Some, ◌∙◌}
use Rattle.hs_ring.proofs.Owed.{exchanged_slot, publish_at}
use Rattle.hs_ring.proofs.steps.publish.Goals as goal

pub fetch_add-requires : goal.fetch_add-requires
fetch_add-requires c = (
  c.exchange.ensures.0 ∙ c.requires.seat.0,
  omega (arith, c.requires.seat.1),
  publish_at _ _ _ _ _ _ _ c.args.chunk (exchanged_slot _ _ _ _ (Some c.args.chunk) c.requires.slot c.exchange.ensures.3) c.requires.can.1 c.requires.can.2,
)
