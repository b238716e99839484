use Rattle.std.proofs.Common.{◌≡◌}
use Rattle.hs_compare.proofs.Prelude.{rings_after, all_rounds}
use Rattle.hs_compare.proofs.walk.walk.Given as goal

abbrev pub invariant-loop-round : goal.invariant-loop-round
invariant-loop-round l = l.ring ≡ rings_after l.fn.ring (all_rounds l.stride l.scripts l.round)
