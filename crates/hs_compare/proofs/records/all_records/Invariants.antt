use Rattle.std.proofs.Common.{◌≡◌, map}
use Rattle.hs_compare.proofs.Prelude.{workload_of, first_comings, coming_of}
use Rattle.hs_compare.proofs.records.all_records.Given as goal

abbrev pub invariant-loop-place : goal.invariant-loop-place
invariant-loop-place l = map coming_of l.all.items ≡ first_comings (workload_of l.workload) l.place
