use Rattle.std.proofs.Common.{arith}
use Rattle.hs_base.specs.declared.limits.TheConstants.{MIN_SIZE}
use Rattle.tests_with.specs.PairLaws.{can_fewer}
use Rattle.tests_threads.proofs.live.calls_all.Goals as goal

pub do_calls-later-requires-clause-left : goal.do_calls-later-requires-clause-left
do_calls-later-requires-clause-left c =
    can_fewer MIN_SIZE 6 7 c.meet.new.client (omega arith) (c.meet.ensures.left MIN_SIZE 7 (c.flush-waits.ensures.left MIN_SIZE 7 (c.do_calls-others.ensures.left 7 c.requires.can)))

pub returns-clause-left : goal.returns-clause-left
returns-clause-left c = c.do_calls-later.ensures.left 1 (c.meet.ensures.left MIN_SIZE 7 (c.flush-waits.ensures.left MIN_SIZE 7 (c.do_calls-others.ensures.left 7 c.requires.can)))
