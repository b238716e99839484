use Rattle.hs_check_follow.specs.Beginning.{AreNoAsks}
use Rattle.hs_check_follow.proofs.making.no_asks.Given as goal

abbrev pub invariant-loop-node : goal.invariant-loop-node
invariant-loop-node l = AreNoAsks l.node l.asks.items
