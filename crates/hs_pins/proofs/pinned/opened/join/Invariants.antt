use Rattle.std.proofs.Common.{◌≡◌, ◌+◌, ◌++◌, length, map}
use Rattle.std.specs.VecDeque.{deque_len, deque_capacity}
use Rattle.hs_pins.proofs.Prelude.{buffer_of}
use Rattle.hs_pins.proofs.pinned.opened.join.Given as goal

-- what was taken so far is in the pile, which has room for the rest
abbrev pub invariant-loop-held : goal.invariant-loop-held
invariant-loop-held g l =
    (goal.iterator-loop-held g).can_next l.held-iterator ×
    (goal.iterator-loop-held g).is_finite l.held-iterator ×
    (map buffer_of l.pile.items ≡ map buffer_of l.fn.pile.items ++ map buffer_of l.yielded) ×
    (deque_len l.pile ≡ deque_len l.fn.pile + length l.yielded) ×
    (deque_capacity l.pile ≡ deque_capacity l.fn.pile)
