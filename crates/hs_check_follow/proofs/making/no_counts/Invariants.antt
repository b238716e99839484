use Rattle.hs_check_follow.specs.Beginning.{AreNoCounts}
use Rattle.hs_check_follow.proofs.making.no_counts.Given as goal

abbrev pub invariant-loop-node : goal.invariant-loop-node
invariant-loop-node l = AreNoCounts l.node l.counts.items
