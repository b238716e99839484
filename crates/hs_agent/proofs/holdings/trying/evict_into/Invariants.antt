use Rattle.std.proofs.Common.{◌≡◌, ◌+◌, ◌++◌, length, map}
use Rattle.std.specs.VecDeque.{deque_len, deque_capacity}
use Rattle.hs_agent.proofs.Prelude.{leaving_of, going_of, evicted_going}
use Rattle.hs_agent.specs.Trying.{lefts_noted}
use Rattle.hs_agent.proofs.holdings.trying.evict_into.Given as goal

-- what went so far has its fates and is in the hand, which has room for the rest
abbrev pub invariant-loop-leaving : goal.invariant-loop-leaving
invariant-loop-leaving g l =
    (goal.iterator-loop-leaving g).can_next l.leaving-iterator ×
    (goal.iterator-loop-leaving g).is_finite l.leaving-iterator ×
    (l.standings.keeps ≡ l.fn.standings.keeps) ×
    (l.standings.items ≡ lefts_noted l.fn.standings.items (map evicted_going (map leaving_of l.yielded))) ×
    (map going_of l.hand.items ≡ map going_of l.fn.hand.items ++ map evicted_going (map leaving_of l.yielded)) ×
    (deque_len l.hand ≡ deque_len l.fn.hand + length l.yielded) ×
    (deque_capacity l.hand ≡ deque_capacity l.fn.hand)
