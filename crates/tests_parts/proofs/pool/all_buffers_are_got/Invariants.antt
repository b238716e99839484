use Rattle.std.proofs.Common.{◌≡◌}
use Rattle.tests_parts.proofs.pool.all_buffers_are_got.Given as goal

abbrev pub invariant-loop-number : goal.invariant-loop-number
invariant-loop-number l = l.pool.events ≡ l.number
