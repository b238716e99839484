use Rattle.std.proofs.Common.{◌∙◌, ap₂, refl}
use Rattle.clap.specs.Words.{with_rule}
use Rattle.hs_cli.proofs.command.with_words.Goals as goal

pub returns : goal.returns
returns c =
    c.in_ok-arg-3.ensures.shape (c.new-2.ensures.optional.1) ∙ ap₂ with_rule
    (c.in_ok-arg-2.ensures.shape (c.new.ensures.optional.1) ∙ ap₂ with_rule
    (c.in_ok-arg.ensures.shape c.needed.ensures.local ∙ ap₂ with_rule refl c.needed.ensures.rule)
    c.new.ensures.rule) c.new-2.ensures.rule
