use Rattle.std.proofs.Common.{◌≡◌, ◌+◌, ◌≤◌}
use Rattle.bench.proofs.pool.turn_locked.Given as goal

abbrev pub invariant-loop-round : goal.invariant-loop-round
invariant-loop-round g l = (l.drawer.pool ≡ l.giver.pool) × (l.drawer.size ≡ l.giver.size) × (l.rounds ≤ l.drawer.left + l._round)
