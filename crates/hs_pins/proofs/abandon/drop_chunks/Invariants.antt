use Rattle.std.proofs.Common.{◌≡◌, ◌+◌, ◌≤◌, ◌++◌, length, map}
use Rattle.hs_pins.proofs.Prelude.{buffer_of, pin_for, pin_of}
use Rattle.hs_pins.proofs.abandon.drop_chunks.Given as goal

-- the chunks that were moved are dropped, and there is room for the others
abbrev pub invariant-loop-held : goal.invariant-loop-held
invariant-loop-held g l =
    (goal.iterator-loop-held g).can_next l.held-iterator ×
    (goal.iterator-loop-held g).is_finite l.held-iterator ×
    (map pin_of l.dropped.items ≡ map pin_of l.fn.dropped.items ++ map (pin_for l.group) (map buffer_of l.yielded)) ×
    (length l.fn.dropped.items + length l.fn.chunks.items ≤ l.dropped.room) ×
    (l.fn.dropped.room ≤ l.dropped.room)
