use Rattle.std.proofs.Common.{arith}
use Rattle.hs_locked.proofs.Owed.{close_at}
use Rattle.hs_locked.proofs.closing.take_tally.Goals as goal

pub load-requires : goal.load-requires
load-requires c = (c.requires.at.0, omega (arith, c.requires.at.1), close_at _ _ _ _ _ c.requires.free c.requires.all)
