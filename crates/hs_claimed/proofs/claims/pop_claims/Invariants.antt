use Rattle.std.proofs.Common.{◌≡◌, ◌≤◌, length, drop}
use Rattle.std.specs.VecDeque.{deque_capacity}
use Rattle.hs_claimed.proofs.claims.pop_claims.Given as goal

-- as many are out as there were turns
abbrev pub invariant-loop : goal.invariant-loop
invariant-loop l =
    (l.claims.items ≡ drop l.counter l.fn.claims.items) × (length l.claims.items ≤ length l.fn.claims.items) × (deque_capacity l.claims ≡ deque_capacity l.fn.claims)
