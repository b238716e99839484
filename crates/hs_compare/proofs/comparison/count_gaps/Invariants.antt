use Rattle.std.proofs.Common.{◌≡◌, take}
use Rattle.hs_compare.proofs.Prelude.{count_by, is_gap}
use Rattle.hs_compare.proofs.comparison.count_gaps.Given as goal

abbrev pub invariant-loop-entry : goal.invariant-loop-entry
invariant-loop-entry l = l.gaps ≡ count_by (is_gap l.claims.keys) (take l.entry-index l.entries)
