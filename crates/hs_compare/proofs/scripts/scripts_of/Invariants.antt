use Rattle.hs_compare.proofs.Prelude.{workload_of, AreFirstScripts}
use Rattle.hs_compare.proofs.scripts.scripts_of.Given as goal

abbrev pub invariant-loop-place : goal.invariant-loop-place
invariant-loop-place l = AreFirstScripts (workload_of l.workload) l.place l.scripts.items
