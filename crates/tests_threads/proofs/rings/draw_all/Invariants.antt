use Rattle.std.proofs.Common.{◌≡◌}
use Rattle.tests_threads.proofs.rings.draw_all.Given as goal

abbrev pub invariant-loop : goal.invariant-loop
invariant-loop l = (l.drawer.pool ≡ l.initial.drawer.pool) × (l.drawer.number ≡ l.initial.drawer.number)
