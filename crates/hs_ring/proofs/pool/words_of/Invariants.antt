use Rattle.std.proofs.Common.{◌≡◌, ◌+◌, ◌*◌, ◌∷◌, ◌++◌, replicate}
use Rattle.hs_ring.proofs.Prelude.{vec_capacity, range_with_len, LEVEL}
use Rattle.hs_ring.proofs.pool.words_of.Given as goal

abbrev pub invariant-loop-number : goal.invariant-loop-number
invariant-loop-number l = (l.words.items ≡ (l.buffers + LEVEL) ∷ range_with_len 1 l.number) × (vec_capacity l.words ≡ 2 * l.buffers + 1)

abbrev pub invariant-loop-more : goal.invariant-loop-more
invariant-loop-more l = (l.words.items ≡ (l.buffers + LEVEL) ∷ range_with_len 1 l.buffers ++ replicate l._more 0) × (vec_capacity l.words ≡ 2 * l.buffers + 1)
