use Rattle.std.proofs.Common.{◌≡◌, false, true, rules}
use Rattle.std.proofs.lemmas.Str.{IsUtf8-from_ascii}
use Rattle.serde_json.specs.declared.value.Value.{the_lemmas}
use Rattle.hs_json.proofs.Plain.{plain_ascii}
use Rattle.hs_json.proofs.Spelled.{spell_text}
use Rattle.hs_json.proofs.values.text_value.Goals as goal

apart : false ≡ true → ⊥
apart e = cc

pub unreachable-requires : goal.unreachable-requires
unreachable-requires c = apart (c.in-Err.ensures.succeeds (IsUtf8-from_ascii c.args.text.items (plain_ascii c.args.text.items c.requires)))

pub returns : goal.returns
returns c = spell_text _ c.args.text.items (search (rules, the_lemmas)) c.requires
