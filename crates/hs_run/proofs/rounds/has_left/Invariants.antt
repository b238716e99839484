use Rattle.std.proofs.Common.{◌≡◌, ℕ, ◌<◌, Some, false}
use Rattle.hs_run.proofs.Prelude.{slice_get, workload_of, ActingNode, TellsNodeLeft}
use Rattle.hs_run.proofs.rounds.has_left.Given as goal

abbrev pub invariant-loop-number : goal.invariant-loop-number
invariant-loop-number l = (k : ℕ) (node : ActingNode) → k < l.number → slice_get l.nodes.items k ≡ Some node → TellsNodeLeft (workload_of l.workload) k node.site false
