use Rattle.std.proofs.Common.{◌≡◌, ◌≤◌, replicate}
use Rattle.hs_run.proofs.Prelude.{no_steps}
use Rattle.hs_run.proofs.tallying.no_logs.Given as goal

abbrev pub invariant-loop-number : goal.invariant-loop-number
invariant-loop-number l = (l.count ≤ l.counts.room) × (l.counts.items ≡ replicate l.number no_steps)
