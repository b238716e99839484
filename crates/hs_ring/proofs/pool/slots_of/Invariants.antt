use Rattle.std.proofs.Common.{◌≡◌, ◌*◌, ◌++◌, length, map, replicate, Some, None}
use Rattle.hs_ring.proofs.Prelude.{vec_capacity, Contents}
use Rattle.hs_ring.proofs.pool.slots_of.Given as goal

abbrev pub invariant-loop-chunk : goal.invariant-loop-chunk
invariant-loop-chunk l =
    (goal.iterator-loop-chunk).can_next l.chunk-iterator ×
    (goal.iterator-loop-chunk).is_finite l.chunk-iterator ×
    (l.slots.items ≡ map (λ (chunk : Contents). Some chunk) l.yielded) ×
    (l.buffers ≡ length l.fn.chunks.items) ×
    (vec_capacity l.slots ≡ 2 * length l.fn.chunks.items)

abbrev pub invariant-loop-more : goal.invariant-loop-more
invariant-loop-more l =
    (l.slots.items ≡ map (λ (chunk : Contents). Some chunk) l.fn.chunks.items ++ replicate l._more None) × (vec_capacity l.slots ≡ 2 * length l.fn.chunks.items)
