use Rattle.std.proofs.Common.{◌≡◌, ◌≤◌, replicate}
use Rattle.hs_run.proofs.Prelude.{no_operations}
use Rattle.hs_run.proofs.tallying.no_clients.Given as goal

abbrev pub invariant-loop-number : goal.invariant-loop-number
invariant-loop-number l = (l.count ≤ l.counts.room) × (l.counts.items ≡ replicate l.number no_operations)
