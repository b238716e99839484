use Rattle.std.proofs.Common.{ℕ, List, length, sym, ap, ◌∙◌, subst₂, arith}
use Rattle.std.specs.Prelude.{IfOk}
use Rattle.hs_ring.specs.Parts.{AreNewEnds}
use Rattle.hs_words.specs.Chunks.{clear_chunks}
use Rattle.hs_words.proofs.Chunks.{length_clear}
use Rattle.hs_node_client.proofs.making.pool.Goals as goal

pub make-requires-2-clause-few : goal.make-requires-2-clause-few
make-requires-2-clause-few c =
    let limits = c.args.limits.now in
    omega (arith, ap length c.in_ok-stock.ensures, length_clear limits.buffers limits.size, c.requires.buffers.1)

pub make-requires-2-clause-clear : goal.make-requires-2-clause-clear
make-requires-2-clause-clear c =
    let limits = c.args.limits.now in
    let count = ap length c.in_ok-stock.ensures ∙ length_clear limits.buffers limits.size in
    (limits.size, c.in_ok-stock.ensures ∙ ap (λ k. clear_chunks k limits.size) (sym count))

pub returns : goal.returns
returns c =
    let limits = c.args.limits.now in
    let count = ap length c.in_ok-stock.ensures ∙ length_clear limits.buffers limits.size in
    let made = c.make-2.ensures limits.size (c.in_ok-stock.ensures ∙ ap (λ k. clear_chunks k limits.size) (sym count)) in
    subst₂ (λ (n : ℕ) (lefts : List ℕ). IfOk c.make-2.result (λ ends. AreNewEnds n limits.size lefts ends.0 ends.1.items)) count (c.as_slice.ensures ∙ c.in_ok-allowances.ensures) made
