use Rattle.std.proofs.Common.{◌≡◌, ◌≤◌, length, map}
use Rattle.hs_index.specs.Index.{leaving, leaving_of}
use Rattle.hs_words.specs.Buffers.{buffer_of}
use Rattle.hs_index.proofs.entry.IndexedTrace.into_gone.Given as goal

-- the chunks that were moved go, and there is room for the others
abbrev pub invariant-loop-held : goal.invariant-loop-held
invariant-loop-held g l =
    (goal.iterator-loop-held g).can_next l.held-iterator ×
    (goal.iterator-loop-held g).is_finite l.held-iterator ×
    (map leaving_of l.gone.items ≡ map (leaving l.chunks l.traces) (map buffer_of l.yielded)) ×
    (length l.fn.self.chunks ≤ l.gone.room)
