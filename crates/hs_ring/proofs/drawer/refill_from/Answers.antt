use Rattle.std.proofs.Common.{arith}
use Rattle.hs_ring.proofs.Owed.{refills_at}
use Rattle.hs_ring.proofs.drawer.refill_from.Goals as goal

pub load-requires : goal.load-requires
load-requires c = (c.requires.at.0, omega (arith, c.requires.at.1), refills_at _ _ _ _ _ c.requires.idle)
