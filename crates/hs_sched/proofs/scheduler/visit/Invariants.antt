use Rattle.std.proofs.Common.{length}
use Rattle.hs_sched.proofs.VisitLemmas.{IsUnderway}
use Rattle.hs_sched.proofs.scheduler.visit.Given as goal

abbrev pub invariant-loop-cost : goal.invariant-loop-cost
invariant-loop-cost g l = IsUnderway g.Q.Queues.costs g.Q.Queues.sends l.trigger.0 l.budget l.left l.initial.queues l.queues

abbrev pub decreases-loop-cost : goal.decreases-loop-cost
decreases-loop-cost g l = length (g.Q.Queues.costs l.queues l.trigger.0)
