use Rattle.std.proofs.Common.{◌≡◌, ◌+◌, ◌-◌, ◌*◌, subst, arith}
use Rattle.tests_threads.specs.declared.live_size.TheConstants.{RECORDS}
use Rattle.hs_base.specs.declared.limits.TheConstants.{MAX_SIZE}
use Rattle.tests_with.specs.Pairs.{CanCall}
use Rattle.tests_threads.proofs.live_size.record_all.Goals as goal
use Rattle.tests_threads.proofs.live_size.record_all.Goals.{then-point-eq0, else-point-eq0}

pub loop-moment-preserved : goal.loop-moment-preserved
loop-moment-preserved c =
    let more : 3 * (RECORDS - c.loop-moment.moment) + 1 ≡ (3 * (RECORDS - (c.loop-moment.moment + 1)) + 1) + 3 = omega (arith, c.loop-moment-test.true) in (
      c.point.ensures (3 * (RECORDS - (c.loop-moment.moment + 1)) + 1) (subst (λ k. CanCall MAX_SIZE k c.loop-moment.client) more c.loop-moment.invariant.0),
      elim c.if-point-eq0.branch [ then-point-eq0 w ↦ omega (arith, w.done-is, c.loop-moment.invariant.1) | else-point-eq0 w ↦ omega (arith, w.done-is, c.loop-moment.invariant.1) ],
    )
