use Rattle.hs_check_follow.proofs.Prelude.{journal_of, Run, workload_of, AllAt, left_of}
use Rattle.hs_check_follow.proofs.run.FollowedRun.follow.Given as goal

abbrev pub invariant-steps : goal.invariant-steps
invariant-steps l = (run : Run) → AllAt (workload_of l.workload) (journal_of l.journal) run l.initial.self.nodes.items l.initial.self.hearing → (now : Run) × AllAt (workload_of l.workload) (journal_of l.journal) now l.self.nodes.items l.self.hearing

abbrev pub decreases-steps : goal.decreases-steps
decreases-steps l = left_of (journal_of l.journal) l.self
