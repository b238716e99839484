use Rattle.std.proofs.Common.{◌≡◌, map, take}
use Rattle.hs_compare.proofs.Prelude.{Coming}
use Rattle.hs_compare.specs.Ringing.{is_among}
use Rattle.hs_compare.proofs.marks.named_marks.Given as goal

abbrev pub invariant-loop-coming : goal.invariant-loop-coming
invariant-loop-coming l = l.marks.items ≡ map (λ (x : Coming). is_among l.ring.named x.trace) (take l.coming-index l.all)
