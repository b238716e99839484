use Rattle.std.proofs.Common.{◌≡◌, ℕ, ◌<◌, ◌≤◌, length, Some}
use Rattle.hs_run.proofs.Prelude.{slice_get, Listing, Op, PlainClientActor}
use Rattle.hs_run.proofs.node_actors.NodeActors.has_left.Given as goal

abbrev pub invariant-loop-number : goal.invariant-loop-number
invariant-loop-number l =
    (k : ℕ) (caller : PlainClientActor) (ops : Listing Op) → k < l.number → slice_get l.self.callers k ≡ Some caller → slice_get l.operations k ≡ Some ops → length ops.items ≤ caller.done
