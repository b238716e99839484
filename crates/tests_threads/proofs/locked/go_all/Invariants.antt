use Rattle.std.proofs.Common.{◌≡◌}
use Rattle.tests_threads.proofs.locked.go_all.Given as goal

abbrev pub invariant-loop : goal.invariant-loop
invariant-loop g l =
    (l.giver.pool ≡ l.initial.giver.pool) × (l.giver.size ≡ l.initial.giver.size) × (l.giver.drawers ≡ l.initial.giver.drawers)
    × (l.drawer.pool ≡ l.initial.drawer.pool) × (l.drawer.size ≡ l.initial.drawer.size) × (l.drawer.number ≡ l.initial.drawer.number)
