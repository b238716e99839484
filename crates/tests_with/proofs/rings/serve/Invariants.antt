use Rattle.std.proofs.Common.{◌≡◌}
use Rattle.tests_with.proofs.rings.serve.Given as goal

abbrev pub invariant-loop : goal.invariant-loop
invariant-loop g l =
    (l.giver.pool ≡ l.initial.giver.pool) × (l.giver.size ≡ l.initial.giver.size) × (l.chunks.key ≡ l.initial.chunks.key)
