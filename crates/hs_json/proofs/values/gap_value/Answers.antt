use Rattle.std.proofs.Common.{◌≡◌, ◌++◌, ap, sym, ◌∙◌, subst, rules}
use Rattle.serde_json.specs.declared.value.Value.{the_lemmas}
use Rattle.hs_report.specs.OutcomeText.{fate_words, json_text}
use Rattle.hs_text.specs.Text.{line_of}
use Rattle.hs_json.specs.Spelling.{ArePlain, Spells}
use Rattle.hs_json.proofs.Plain.{plain_fate}
use Rattle.hs_json.proofs.Spelled.{spell_gap}
use Rattle.hs_json.proofs.values.gap_value.Goals as goal

pub text_value-requires : goal.text_value-requires
text_value-requires c =
    subst ArePlain (sym (c.in_ok-push_fate.ensures ∙ ap (λ t. t ++ line_of (fate_words c.args.version c.args.entry.now.fate)) c.new-fate.ensures.items)) (plain_fate c.args.version c.args.entry.now.fate)

pub returns : goal.returns
returns c =
    let words : c.push_fate.new.out.items ≡ line_of (fate_words c.args.version c.args.entry.now.fate) =
    c.in_ok-push_fate.ensures ∙ ap (λ t. t ++ line_of (fate_words c.args.version c.args.entry.now.fate)) c.new-fate.ensures.items in
    spell_gap c.args.version c.args.entry.now c.in_ok-values.values.items c.push.new.self.items c.text_value.result _ c.in_ok-values.ensures
    (subst (λ text. Spells c.text_value.result (json_text text)) words c.text_value.ensures) c.in_ok-push.ensures.items (search (rules, the_lemmas))
