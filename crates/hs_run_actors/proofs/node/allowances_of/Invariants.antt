use Rattle.std.proofs.Common.{◌≡◌, ◌≤◌, length, take}
use Rattle.hs_run_actors.proofs.Prelude.{lefts_of}
use Rattle.hs_run_actors.proofs.node.allowances_of.Given as goal

abbrev pub invariant-loop-operations : goal.invariant-loop-operations
invariant-loop-operations l = (length l.clients ≤ l.allowances.room) × (l.allowances.items ≡ lefts_of l.size (take l.operations-index l.clients))
