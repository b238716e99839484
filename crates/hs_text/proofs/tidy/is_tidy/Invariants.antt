use Rattle.std.proofs.Common.{◌≡◌, ◌&&◌, true, drop}
use Rattle.hs_text.proofs.TidyLines.{is_tidy_behind}
use Rattle.hs_text.proofs.tidy.is_tidy.Given as goal

abbrev pub invariant-loop-byte : goal.invariant-loop-byte
invariant-loop-byte l = is_tidy_behind true l.text ≡ (l.is_tidy && is_tidy_behind l.is_behind (drop l.byte-index l.text))
