use Rattle.std.proofs.Common.{subst, rules}
use Rattle.serde_json.specs.declared.value.Value.{the_lemmas}
use Rattle.hs_collect.specs.Views.{placed_of}
use Rattle.hs_report.specs.OutcomeText.{json_text}
use Rattle.hs_text.specs.Text.{payload_text}
use Rattle.hs_json.specs.Spelling.{Spells}
use Rattle.hs_json.proofs.Spelled.{spell_record}
use Rattle.hs_json.proofs.values.record_value.Goals as goal

pub returns : goal.returns
returns c =
    spell_record c.in_ok-values.values.items c.push.new.self.items c.push-2.new.self.items c.from.result c.in_ok-payload_value.field-0 _ (placed_of c.args.whole.now) c.in_ok-values.ensures c.from.ensures
    (subst (λ bytes. Spells c.in_ok-payload_value.field-0 (json_text (payload_text bytes))) c.as_slice.ensures c.in_ok-payload_value.ensures) c.in_ok-push.ensures.items c.in_ok-push-2.ensures.items
    (search (rules, the_lemmas))
