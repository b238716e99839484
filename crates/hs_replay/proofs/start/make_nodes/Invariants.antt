use Rattle.std.proofs.Common.{◌≤◌}
use Rattle.hs_replay.proofs.Prelude.{workload_of, AreMade}
use Rattle.hs_replay.proofs.start.make_nodes.Given as goal

abbrev pub invariant-loop-node : goal.invariant-loop-node
invariant-loop-node l = (l.count ≤ l.nodes.room) × AreMade (workload_of l.workload) l.node l.nodes.items
