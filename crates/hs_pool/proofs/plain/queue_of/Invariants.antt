use Rattle.std.proofs.Common.{◌≡◌, length}
use Rattle.std.specs.VecDeque.{deque_capacity}
use Rattle.hs_pool.proofs.plain.queue_of.Given as goal

-- the chunks that were moved wait, and there is room for the others
abbrev pub invariant-loop-chunk : goal.invariant-loop-chunk
invariant-loop-chunk l =
    (goal.iterator-loop-chunk).can_next l.chunk-iterator ×
    (goal.iterator-loop-chunk).is_finite l.chunk-iterator ×
    (l.queue.items ≡ l.yielded) ×
    (deque_capacity l.queue ≡ length l.fn.chunks.items)
