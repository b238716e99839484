use Rattle.std.proofs.Common.{take}
use Rattle.hs_compare.proofs.Prelude.{AreCounted}
use Rattle.hs_compare.proofs.lines.counted.Given as goal

abbrev pub invariant-loop-place : goal.invariant-loop-place
invariant-loop-place l = AreCounted (take l.place l.traces) l.counts.entries
