use Rattle.std.proofs.Common.{ℕ, ◌+◌, List, ◌∷◌, ◌++◌, length, sym, ap, ap₂, ◌∙◌, [], arith, replicate, length-append}
use Rattle.hs_ring.proofs.Prelude.{length-replicate, range_with_len, length-range_with_len, LEVEL}
use Rattle.hs_ring.proofs.Making.{range_and}
use Rattle.hs_ring.proofs.pool.words_of.Goals as goal

pub push_reserved-requires-in-loop-number : goal.push_reserved-requires-in-loop-number
push_reserved-requires-in-loop-number c =
    omega (arith, ap (λ (l : List ℕ). length l) c.loop-number.invariant.0, c.loop-number.invariant.1, length-range_with_len 1 c.loop-number.number)

pub loop-number-preserved : goal.loop-number-preserved
loop-number-preserved c = (
  c.push_reserved-in-loop-number.ensures.items
      ∙ ap₂ (λ (l : List ℕ) (x : ℕ). l ++ x ∷ []) c.loop-number.invariant.0 (omega (arith, c.from-in-loop-number.ensures))
      ∙ ap (λ (l : List ℕ). (c.args.buffers + LEVEL) ∷ l) (sym (range_and 1 c.loop-number.number)),
  c.push_reserved-in-loop-number.ensures.capacity ∙ c.loop-number.invariant.1,
)

pub push_reserved-requires-in-loop-more : goal.push_reserved-requires-in-loop-more
push_reserved-requires-in-loop-more c =
    omega (arith, ap (λ (l : List ℕ). length l) c.loop-more.invariant.0, c.loop-more.invariant.1, length-range_with_len 1 c.args.buffers, length-append (range_with_len 1 c.args.buffers) (replicate c.loop-more._more 0), length-replicate {A = ℕ} c.loop-more._more 0)
