use Rattle.std.proofs.Common.{ℕ, ◌<◌}
use Rattle.hs_replay.proofs.Prelude.{Machine, workload_of, NodesAt, IsNodeDone}
use Rattle.hs_replay.proofs.all.has_left.Given as goal

abbrev pub invariant-loop-node : goal.invariant-loop-node
invariant-loop-node l = (m : Machine) → NodesAt (workload_of l.workload) m l.nodes.items → (n : ℕ) → n < l.node → IsNodeDone (workload_of l.workload) m n
