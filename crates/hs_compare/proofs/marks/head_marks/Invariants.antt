use Rattle.std.proofs.Common.{◌≡◌, map, take}
use Rattle.hs_compare.proofs.Prelude.{Coming, kept_by_rank}
use Rattle.hs_compare.proofs.marks.head_marks.Given as goal

abbrev pub invariant-loop-coming : goal.invariant-loop-coming
invariant-loop-coming l = l.marks.items ≡ map (λ (x : Coming). kept_by_rank l.one_in x.trace) (take l.coming-index l.all)
