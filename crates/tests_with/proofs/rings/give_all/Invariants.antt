use Rattle.std.proofs.Common.{◌≡◌}
use Rattle.tests_with.proofs.rings.give_all.Given as goal

abbrev pub invariant-loop : goal.invariant-loop
invariant-loop g l =
    (l.giver.pool ≡ l.initial.giver.pool) × (l.giver.size ≡ l.initial.giver.size)
    × (l.front.one.key ≡ l.initial.front.one.key) × (l.front.two.key ≡ l.initial.front.two.key)
    × (l.back.one.key ≡ l.initial.back.one.key) × (l.back.two.key ≡ l.initial.back.two.key)
