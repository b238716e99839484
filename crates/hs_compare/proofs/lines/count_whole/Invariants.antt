use Rattle.std.proofs.Common.{◌≡◌, take}
use Rattle.hs_compare.proofs.Prelude.{count_by, is_whole_by, times_in}
use Rattle.hs_compare.proofs.lines.count_whole.Given as goal

abbrev pub invariant-loop-trace : goal.invariant-loop-trace
invariant-loop-trace l = l.whole ≡ count_by (is_whole_by (times_in l.all.entries) (times_in l.kept.entries)) (take l.trace-index l.named)
