use Rattle.std.proofs.Common.{◌≡◌, take}
use Rattle.hs_compare.proofs.Prelude.{count_by, is_limited}
use Rattle.hs_compare.proofs.comparison.count_limited.Given as goal

abbrev pub invariant-loop-entry : goal.invariant-loop-entry
invariant-loop-entry l = l.limited ≡ count_by (is_limited l.ring.named l.claims.keys) (take l.entry-index l.entries)
