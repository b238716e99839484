use Rattle.std.proofs.Common.{◌≡◌}
use Rattle.tests_with.proofs.rings.give_back.Given as goal

abbrev pub invariant-loop : goal.invariant-loop
invariant-loop g l =
    (l.held.lease.pool ≡ l.giver.pool) × (l.held.chunk.size ≡ l.giver.size)
    × (l.giver.pool ≡ l.initial.giver.pool) × (l.giver.size ≡ l.initial.giver.size)
