use Rattle.std.proofs.Common.{◌≡◌, take}
use Rattle.hs_compare.proofs.Prelude.{bytes_in}
use Rattle.hs_compare.proofs.marks.all_bytes.Given as goal

abbrev pub invariant-loop-coming : goal.invariant-loop-coming
invariant-loop-coming l = l.bytes ≡ bytes_in (take l.coming-index l.all)
