use Rattle.std.proofs.Common.{◌≡◌, ◌≤◌, replicate}
use Rattle.hs_run_actors.proofs.Inboxes.{nothing_told}
use Rattle.hs_run_actors.proofs.coordinator.no_inboxes.Given as goal

abbrev pub invariant-loop-node : goal.invariant-loop-node
invariant-loop-node l = (l.nodes ≤ l.inboxes.room) × (l.inboxes.items ≡ replicate l._node nothing_told)
