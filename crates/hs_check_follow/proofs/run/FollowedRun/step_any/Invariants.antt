use Rattle.hs_check_follow.proofs.Prelude.{journal_of, Run, workload_of, AllAt}
use Rattle.hs_check_follow.proofs.Steps.{Tried}
use Rattle.hs_check_follow.proofs.run.FollowedRun.step_any.Given as goal

abbrev pub invariant-loop-node : goal.invariant-loop-node
invariant-loop-node l = (run : Run) → AllAt (workload_of l.workload) (journal_of l.journal) run l.initial.self.nodes.items l.initial.self.hearing → Tried (workload_of l.workload) (journal_of l.journal) run l.node l.initial.self l.self
