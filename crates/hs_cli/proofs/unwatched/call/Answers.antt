use Rattle.std.proofs.Common.{◌∙◌, map, string_bytes, refl, sym}
use Rattle.hs_cli.specs.Commands.{unwatched_in}
use Rattle.hs_cli.specs.Messages.{usage_text}
use Rattle.hs_cli.proofs.EndingLemmas.{worded, finished_usage}
use Rattle.hs_cli.proofs.unwatched.call.Goals as goal

pub returns-in-Ok-Some-clause-ends : goal.returns-in-Ok-Some-clause-ends
returns-in-Ok-Some-clause-ends g c =
    worded c.in-Ok-Some.command _ _ _ _ _ _ _ _ (unwatched_in (map (λ word. string_bytes word) c.args.words.now)) (sym c.in-Ok-Some.ensures.is ∙ c.in-Ok-Some.field-0-is) c.carry_out.result c.carry_out.ensures.ends

pub returns-in-Ok-None-clause-ends : goal.returns-in-Ok-None-clause-ends
returns-in-Ok-None-clause-ends g c =
    finished_usage (unwatched_in (map (λ word. string_bytes word) c.args.words.now)) _ _ _ _ _ _ c.finish.result usage_text (sym c.in-Ok-None.ensures.is ∙ c.in-Ok-None.field-0-is, refl, refl) c.finish.ensures
