use Rattle.std.proofs.Common.{◌≡◌, ◌++◌, length, take, drop}
use Rattle.hs_text.specs.Text.{hex_text}
use Rattle.hs_text.proofs.writing.push_hex.Given as goal

abbrev pub invariant-loop-place : goal.invariant-loop-place
invariant-loop-place l = record {
  text : hex_text l.digits l.fn.number ≡ hex_text l.place l.rest ++ drop l.place (take l.digits l.text);
  size : length l.text ≡ 32;
}
