use Rattle.hs_run.proofs.Prelude.{FirstChanged, LogCounted}
use Rattle.hs_run.proofs.tallying.count_logs.Given as goal

abbrev pub invariant-loop-number : goal.invariant-loop-number
invariant-loop-number l = FirstChanged (LogCounted l.nodes.items) l.number l.initial.counts.items l.counts.items
