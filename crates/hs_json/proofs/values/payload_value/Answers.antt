use Rattle.std.proofs.Common.{◌++◌, ap, sym, ◌∙◌, subst, arith}
use Rattle.std.proofs.lemmas.List.{get_or_default}
use Rattle.hs_report.specs.OutcomeText.{json_text}
use Rattle.hs_text.specs.Text.{payload_text}
use Rattle.hs_json.specs.Spelling.{ArePlain, Spells}
use Rattle.hs_json.proofs.Plain.{plain_payload}
use Rattle.hs_json.proofs.values.payload_value.Goals as goal

pub text_value-requires : goal.text_value-requires
text_value-requires c =
    subst ArePlain (sym (c.in_ok-push_payload.ensures.ok ∙ ap (λ t. t ++ payload_text c.args.payload.now) c.new-text.ensures.items)) (plain_payload c.args.payload.now (λ k d lt. omega (arith, c.type_inv.payload k, get_or_default c.args.payload.now k d 0 lt)))

pub returns : goal.returns
returns c =
    subst (λ text. Spells c.text_value.result (json_text text)) (c.in_ok-push_payload.ensures.ok ∙ ap (λ t. t ++ payload_text c.args.payload.now) c.new-text.ensures.items) c.text_value.ensures
