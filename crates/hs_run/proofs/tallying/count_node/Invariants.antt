use Rattle.hs_run.proofs.Prelude.{workload_of, CountedFirst}
use Rattle.hs_run.proofs.tallying.count_node.Given as goal

abbrev pub invariant-loop-number : goal.invariant-loop-number
invariant-loop-number l = CountedFirst (workload_of l.workload) l.node l.number l.site.callers l.initial.counts.items l.counts.items
