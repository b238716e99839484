use Rattle.std.proofs.Common.{◌≡◌, max, drop}
use Rattle.hs_check.proofs.Prelude.{most_passes}
use Rattle.hs_check.proofs.asks.most_passes.Given as goal

abbrev pub invariant-loop-node : goal.invariant-loop-node
invariant-loop-node l = max l.most (most_passes (drop l.node l.nodes)) ≡ most_passes l.nodes
