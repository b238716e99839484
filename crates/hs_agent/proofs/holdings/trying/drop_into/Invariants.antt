use Rattle.std.proofs.Common.{◌≡◌, ◌+◌, ◌++◌, length, map}
use Rattle.std.specs.VecDeque.{deque_len, deque_capacity}
use Rattle.hs_agent.proofs.Prelude.{pin_of, going_of, abandoned_going}
use Rattle.hs_agent.specs.Trying.{lefts_noted}
use Rattle.hs_agent.proofs.holdings.trying.drop_into.Given as goal

-- what went so far has its fates and is in the hand, which has room for the rest
abbrev pub invariant-loop-dropped : goal.invariant-loop-dropped
invariant-loop-dropped g l =
    (goal.iterator-loop-dropped g).can_next l.dropped-iterator ×
    (goal.iterator-loop-dropped g).is_finite l.dropped-iterator ×
    (l.standings.keeps ≡ l.fn.standings.keeps) ×
    (l.standings.items ≡ lefts_noted l.fn.standings.items (map abandoned_going (map pin_of l.yielded))) ×
    (map going_of l.hand.items ≡ map going_of l.fn.hand.items ++ map abandoned_going (map pin_of l.yielded)) ×
    (deque_len l.hand ≡ deque_len l.fn.hand + length l.yielded) ×
    (deque_capacity l.hand ≡ deque_capacity l.fn.hand)
