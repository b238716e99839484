use Rattle.std.proofs.Common.{◌≡◌, ◌+◌, ◌≤◌, ◌++◌, length, map}
use Rattle.hs_words.specs.Buffers.{buffer_of}
use Rattle.hs_index.specs.Index.{chunks_left, count_chunks}
use Rattle.hs_index.proofs.recent.Recent.into_chunks.Given as goal

-- the chunks that were moved and those that are left are all, and there is room for these
abbrev pub invariant-loop-entry : goal.invariant-loop-entry
invariant-loop-entry g l =
    (map buffer_of l.left.items ++ chunks_left l.self.traces ≡ chunks_left l.initial.self.traces) ×
    (length l.left.items + count_chunks l.self.traces ≤ l.left.room)

abbrev pub decreases-loop-entry : goal.decreases-loop-entry
decreases-loop-entry g l = length l.self.traces
