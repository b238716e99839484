use Rattle.std.proofs.Common.{◌≡◌, ◌+◌, ◌≤◌, ◌++◌, map, take}
use Rattle.std.specs.VecDeque.{deque_len, deque_capacity}
use Rattle.hs_claimed.specs.Claims.{claim_of}
use Rattle.hs_claimed.proofs.claims.push_claims.Given as goal

-- what was looked at so far is added
abbrev pub invariant-loop-place : goal.invariant-loop-place
invariant-loop-place l =
    (l.claims.items ≡ l.fn.claims.items ++ map (claim_of l.group) (take l.place l.traces))
    × (deque_len l.claims ≤ deque_len l.fn.claims + l.place)
    × (deque_capacity l.claims ≡ deque_capacity l.fn.claims)
