use Rattle.std.proofs.Common.{◌≡◌, ◌++◌, ◌*◌, length, take, drop}
use Rattle.hs_text.specs.Text.{bytes_of_pairs}
use Rattle.hs_text.proofs.values.decode_pairs.Given as goal

abbrev pub invariant-loop-place : goal.invariant-loop-place
invariant-loop-place l = record {
  size : length l.word ≡ 2 * length l.out;
  bytes : bytes_of_pairs l.word ≡ take l.place l.out ++ bytes_of_pairs (drop (2 * l.place) l.word);
}
