use Rattle.hs_check_follow.proofs.Prelude.{journal_of, node_start, workload_of, AreFirst, NodeAt}
use Rattle.hs_check_follow.proofs.making.begin.Given as goal

abbrev pub invariant-loop-node : goal.invariant-loop-node
invariant-loop-node l = AreFirst (λ n t. NodeAt (workload_of l.workload) (journal_of l.journal) (node_start (workload_of l.workload) (journal_of l.journal) n) t) l.node l.nodes.items
