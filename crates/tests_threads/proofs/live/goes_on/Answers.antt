use Rattle.std.proofs.Common.{◌≤◌, arith}
use Rattle.hs_base.specs.declared.limits.TheConstants.{MIN_SIZE}
use Rattle.tests_with.specs.PairLaws.{can_fewer}
use Rattle.tests_threads.proofs.live.goes_on.Goals as goal

pub do_calls-later-requires-clause-left : goal.do_calls-later-requires-clause-left
do_calls-later-requires-clause-left c =
    let few : 6 ≤ 64 = omega arith in
    let can = c.do_calls-others.ensures.left 6 (can_fewer MIN_SIZE _ 39 c.args.client.now (omega arith) c.requires.can) in
    c.flush-waits.ensures.left MIN_SIZE 6 (c.renew-renewed.ensures.left MIN_SIZE 6 few can)
