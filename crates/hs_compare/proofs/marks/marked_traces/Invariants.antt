use Rattle.std.proofs.Common.{◌≡◌, take}
use Rattle.hs_compare.proofs.Prelude.{marked, traces_of}
use Rattle.hs_compare.proofs.marks.marked_traces.Given as goal

abbrev pub invariant-loop-place : goal.invariant-loop-place
invariant-loop-place l = l.traces.items ≡ traces_of (marked (take l.place l.marks) (take l.place l.all))
