use Rattle.std.proofs.Common.{◌≡◌, ◌++◌, take, drop, map}
use Rattle.hs_sched.proofs.TurnLemmas.{IsServed, served}
use Rattle.hs_sched.proofs.scheduler.Scheduler.turn.Given as goal

abbrev pub invariant-loop-share : goal.invariant-loop-share
invariant-loop-share g l =
    record {
      items : l.share-items ≡ map (served l.fn.self.size (g.Q.Queues.costs l.fn.queues)) (take l.share-index l.fn.self.shares) ++ drop l.share-index l.fn.self.shares;
      turned : IsServed g.Q.Queues.costs g.Q.Queues.sends l.fn.self.size (take l.share-index l.fn.self.shares) l.fn.queues l.queues;
    }
