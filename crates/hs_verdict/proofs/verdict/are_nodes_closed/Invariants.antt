use Rattle.std.proofs.Common.{◌≡◌, length}
use Rattle.hs_base.specs.NodeSets.{nodes_of}
use Rattle.hs_verdict.specs.Verdict.{are_nodes_closed}
use Rattle.hs_verdict.proofs.verdict.are_nodes_closed.Given as goal

abbrev pub decreases-loop-node : goal.decreases-loop-node
decreases-loop-node l = length (nodes_of l.rest)

-- all depends on those that are left
abbrev pub invariant-loop-node : goal.invariant-loop-node
invariant-loop-node l = are_nodes_closed l.groups l.standings l.trace l.fn.nodes ≡ are_nodes_closed l.groups l.standings l.trace l.rest
