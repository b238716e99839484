use Rattle.std.proofs.Common.{◌≡◌, length}
use Rattle.hs_base.specs.NodeSets.{nodes_of}
use Rattle.hs_hub.specs.Births.{are_nodes_sure}
use Rattle.hs_hub.proofs.births.are_nodes_sure.Given as goal

abbrev pub decreases-loop-node : goal.decreases-loop-node
decreases-loop-node l = length (nodes_of l.rest)

-- all depends on those that are left
abbrev pub invariant-loop-node : goal.invariant-loop-node
invariant-loop-node l = are_nodes_sure l.births l.since l.fn.nodes ≡ are_nodes_sure l.births l.since l.rest
