use Rattle.std.proofs.Common.{◌≡◌, ℕ, ◌<◌, false}
use Rattle.hs_base.specs.NodeSets.{has_node}
use Rattle.hs_base.proofs.node_set.NodeSet.first.Given as goal

abbrev pub invariant-loop-number : goal.invariant-loop-number
invariant-loop-number l = (k : ℕ) → k < l.number → has_node l.self k ≡ false
