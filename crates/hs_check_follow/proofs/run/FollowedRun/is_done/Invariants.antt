use Rattle.std.proofs.Common.{◌≡◌, ◌<◌, ℕ, [], Some, slice_get}
use Rattle.hs_check_follow.proofs.Prelude.{journal_of, Run, NodeRun, PlainWorkload, AllAt}
use Rattle.hs_check_follow.proofs.run.FollowedRun.is_done.Given as goal

abbrev pub invariant-loop-node : goal.invariant-loop-node
invariant-loop-node l =
    (W : PlainWorkload) (run : Run) → AllAt W (journal_of l.journal) run l.self.nodes.items l.self.hearing → (n : ℕ) (node : NodeRun) → n < l.node → slice_get run.nodes n ≡ Some node → node.left ≡ []
