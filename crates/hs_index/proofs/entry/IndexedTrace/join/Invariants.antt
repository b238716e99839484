use Rattle.std.proofs.Common.{◌≡◌, ◌+◌, ◌≤◌, ◌++◌, length, map}
use Rattle.hs_words.specs.Buffers.{buffer_of}
use Rattle.hs_index.proofs.entry.IndexedTrace.join.Given as goal

-- the chunks that were moved stand behind the others, and there is room for the rest
abbrev pub invariant-loop-held : goal.invariant-loop-held
invariant-loop-held g l =
    (goal.iterator-loop-held g).can_next l.held-iterator ×
    (goal.iterator-loop-held g).is_finite l.held-iterator ×
    (map buffer_of l.others.items ≡ map buffer_of l.fn.others.items ++ map buffer_of l.yielded) ×
    (length l.fn.others.items + length l.fn.self.chunks ≤ l.others.room) ×
    (l.fn.others.room ≤ l.others.room)
