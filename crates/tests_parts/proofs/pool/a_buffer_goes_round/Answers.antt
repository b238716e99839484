use Rattle.std.proofs.Common.{◌≡◌, ℕ, length, sym, ap, ◌∙◌}
use Rattle.hs_base.specs.declared.limits.TheConstants.{MIN_SIZE}
use Rattle.hs_words.specs.Chunks.{clear_chunks}
use Rattle.tests_parts.proofs.pool.a_buffer_goes_round.Goals as goal

pub make-requires-2-clause-clear : goal.make-requires-2-clause-clear
make-requires-2-clause-clear c =
    let made = c.in_ok-chunks.ensures in
    (MIN_SIZE, made ∙ ap (λ (n : ℕ). clear_chunks n MIN_SIZE) (sym (ap length made)))
