use Rattle.std.proofs.Common.{◌≡◌, take}
use Rattle.hs_compare.proofs.Prelude.{marked, bytes_in}
use Rattle.hs_compare.proofs.marks.marked_bytes.Given as goal

abbrev pub invariant-loop-place : goal.invariant-loop-place
invariant-loop-place l = l.bytes ≡ bytes_in (marked (take l.place l.marks) (take l.place l.all))
