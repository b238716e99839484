use Rattle.std.proofs.Common.{◌≡◌, ℕ, length, sym, ap, ◌∙◌, arith}
use Rattle.hs_words.proofs.Chunks.{length_clear}
use Rattle.hs_words.specs.Chunks.{clear_chunks}
use Rattle.tests_parts.proofs.pool.all_buffers_are_got.Goals as goal

pub make-requires-2-clause-clear : goal.make-requires-2-clause-clear
make-requires-2-clause-clear c =
    let count : length c.in_ok-chunks.chunks.items ≡ c.args.buffers = ap length c.in_ok-chunks.ensures ∙ length_clear c.args.buffers c.args.size in
    (c.args.size, c.in_ok-chunks.ensures ∙ ap (λ (n : ℕ). clear_chunks n c.args.size) (sym count))

pub make-requires-2-clause-few : goal.make-requires-2-clause-few
make-requires-2-clause-few c =
    let count : length c.in_ok-chunks.chunks.items ≡ c.args.buffers = ap length c.in_ok-chunks.ensures ∙ length_clear c.args.buffers c.args.size in
    omega (arith, count, c.requires.buffers.1)
