use Rattle.std.proofs.Common.{◌≡◌, ◌*◌, length, take}
use Rattle.hex.specs.Hex.{encode_lower}
use Rattle.hs_text.proofs.digits.write_hex.Given as goal

abbrev pub invariant-loop-byte : goal.invariant-loop-byte
invariant-loop-byte l = record {
  place : l.at ≡ 2 * l.byte-index;
  size : length l.text ≡ 2 * length l.bytes;
  done : take l.at l.text ≡ encode_lower (take l.byte-index l.bytes);
}
