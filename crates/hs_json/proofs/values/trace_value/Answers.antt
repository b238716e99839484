use Rattle.std.proofs.Common.{◌++◌, ap, sym, ◌∙◌, subst}
use Rattle.hs_report.specs.OutcomeText.{json_text}
use Rattle.hs_text.specs.Text.{hex_text}
use Rattle.hs_json.specs.Spelling.{ArePlain, Spells}
use Rattle.hs_json.proofs.Plain.{plain_trace}
use Rattle.hs_json.proofs.values.trace_value.Goals as goal

pub text_value-requires : goal.text_value-requires
text_value-requires c =
    subst ArePlain (sym (c.in_ok-push_hex.ensures.ok ∙ ap (λ t. t ++ hex_text c.digits.result c.args.trace.0) c.new-text.ensures.items ∙ ap (λ n. hex_text n c.args.trace.0) c.digits.ensures)) (plain_trace c.args.version c.args.trace)

pub returns : goal.returns
returns c =
    subst (λ text. Spells c.text_value.result (json_text text))
    (c.in_ok-push_hex.ensures.ok ∙ ap (λ t. t ++ hex_text c.digits.result c.args.trace.0) c.new-text.ensures.items ∙ ap (λ n. hex_text n c.args.trace.0) c.digits.ensures) c.text_value.ensures
