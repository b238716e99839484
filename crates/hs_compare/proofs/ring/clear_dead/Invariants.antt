use Rattle.std.proofs.Common.{◌≡◌, ◌≤◌, length}
use Rattle.hs_compare.proofs.Rings.{after_passing}
use Rattle.hs_compare.proofs.ring.clear_dead.Given as goal

abbrev pub invariant-loop : goal.invariant-loop
invariant-loop l =
    (l.ring.items ≡ after_passing l.named.keys l.fn.ring.items l.counter) × (l.ring.capacity ≡ l.fn.ring.capacity) × (length l.ring.items ≤ l.ring.capacity)
