use Rattle.std.proofs.Common.{◌≡◌, filter, take}
use Rattle.hs_compare.proofs.Prelude.{is_counted}
use Rattle.hs_compare.proofs.lines.counted_of.Given as goal

abbrev pub invariant-loop-trace : goal.invariant-loop-trace
invariant-loop-trace l = l.known.items ≡ filter (is_counted l.counts.entries) (take l.trace-index l.traces)
