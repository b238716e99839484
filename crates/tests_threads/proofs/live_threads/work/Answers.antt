use Rattle.std.proofs.Common.{◌≡◌, ◌+◌, ◌-◌, ◌*◌, ◌≤◌, subst, arith}
use Rattle.hs_base.specs.declared.limits.TheConstants.{MIN_SIZE}
use Rattle.tests_with.specs.Pairs.{CanCall}
use Rattle.tests_with.specs.PairLaws.{can_fewer, keeps_both}
use Rattle.tests_threads.proofs.live_threads.work.Goals as goal

pub do_calls-requires-clause-left : goal.do_calls-requires-clause-left
do_calls-requires-clause-left c =
    let fewer : 14 ≤ 14 * (100 - c.loop-round._round) + 1 = omega (arith, c.loop-round-test.true) in
    can_fewer MIN_SIZE 14 (14 * (100 - c.loop-round._round) + 1) c.loop-round.client fewer c.loop-round.invariant.0

pub loop-round-preserved : goal.loop-round-preserved
loop-round-preserved c =
    let more : 14 * (100 - c.loop-round._round) + 1 ≡ 14 + (14 * (100 - (c.loop-round._round + 1)) + 1) = omega (arith, c.loop-round-test.true) in (
      c.do_calls.ensures.left (14 * (100 - (c.loop-round._round + 1)) + 1) (subst (λ k. CanCall MIN_SIZE k c.loop-round.client) more c.loop-round.invariant.0),
      keeps_both c.args.client c.loop-round.client c.do_calls.new.client c.loop-round.invariant.1 c.do_calls.ensures.same,
    )

pub returns-clause-left : goal.returns-clause-left
returns-clause-left c =
    let over : 14 * (100 - c.loop-round._round) + 1 ≡ 1 = omega (arith, c.loop-round-test.false) in
    c.flush.ensures.left MIN_SIZE 1 (subst (λ k. CanCall MIN_SIZE k c.loop-round.client) over c.loop-round.invariant.0)
