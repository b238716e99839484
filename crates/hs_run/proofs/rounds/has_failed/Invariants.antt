use Rattle.std.proofs.Common.{◌≡◌, ℕ, ◌<◌, Some}
use Rattle.hs_run.proofs.Prelude.{slice_get, ActingNode}
use Rattle.std.specs.Prelude.{false}
use Rattle.hs_run.proofs.rounds.has_failed.Given as goal

abbrev pub invariant-loop-number : goal.invariant-loop-number
invariant-loop-number l = (k : ℕ) (node : ActingNode) → k < l.number → slice_get l.nodes.items k ≡ Some node → node.failed ≡ false
