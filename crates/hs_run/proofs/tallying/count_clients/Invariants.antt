use Rattle.hs_run.proofs.Prelude.{workload_of, CountedNodes}
use Rattle.hs_run.proofs.tallying.count_clients.Given as goal

abbrev pub invariant-loop-number : goal.invariant-loop-number
invariant-loop-number l = CountedNodes (workload_of l.workload) l.number l.nodes.items l.initial.counts.items l.counts.items
