use Rattle.hs_base.specs.declared.limits.TheConstants.{MIN_SIZE}
use Rattle.tests_threads.proofs.live.refuses.Goals as goal

pub returns-clause-left : goal.returns-clause-left
returns-clause-left c = c.meet.ensures.left MIN_SIZE 1 (c.flush-waits.ensures.left MIN_SIZE 1 (c.do_calls-others.ensures.left 1 c.requires.can))
