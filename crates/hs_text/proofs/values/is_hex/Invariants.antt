use Rattle.std.proofs.Common.{◌≡◌, ◌&&◌, drop}
use Rattle.std.specs.List.{list_all}
use Rattle.hs_text.specs.Text.{is_hex_digit}
use Rattle.hs_text.proofs.values.is_hex.Given as goal

abbrev pub invariant-loop-byte : goal.invariant-loop-byte
invariant-loop-byte l = list_all is_hex_digit l.word ≡ (l.is_hex && list_all is_hex_digit (drop l.byte-index l.word))
