use Rattle.hs_replay.proofs.Prelude.{Machine, workload_of, NodesAt, clients_gone}
use Rattle.hs_replay.proofs.all.play_all.Given as goal

abbrev pub invariant-loop-node : goal.invariant-loop-node
invariant-loop-node l = (m : Machine) → NodesAt (workload_of l.workload) m l.initial.nodes.items → NodesAt (workload_of l.workload) (clients_gone (workload_of l.workload) m l.node) l.nodes.items
