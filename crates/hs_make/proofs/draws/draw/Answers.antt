use Rattle.std.proofs.Common.{ℕ, List, ap, ◌∙◌}
use Rattle.hs_make.specs.Words.{words_from}
use Rattle.hs_make.proofs.Sequences.{words_from-next}
use Rattle.hs_make.proofs.draws.draw.Goals as goal

pub returns-clause-word : goal.returns-clause-word
unfolding words_from
returns-clause-word c = ap (λ (p : ℕ × List ℕ). p.0) c.next_word.ensures

pub returns-clause-rest : goal.returns-clause-rest
returns-clause-rest c = ap (λ (p : ℕ × List ℕ). words_from p.1) c.next_word.ensures ∙ words_from-next c.args.generator.now
