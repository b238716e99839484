use Rattle.std.proofs.Common.{◌≡◌, ◌<◌, ◌^◌, drop}
use Rattle.hs_text.specs.Text.{hex_value_after}
use Rattle.hs_text.proofs.values.few_hex_digits.Given as goal

abbrev pub invariant-loop-digit : goal.invariant-loop-digit
invariant-loop-digit l = record {
  value : hex_value_after 0 l.word ≡ hex_value_after l.number (drop l.digit-index l.word);
  small : l.number < 16 ^ l.digit-index;
}
