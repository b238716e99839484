use Rattle.hs_base.specs.declared.limits.TheConstants.{MIN_SIZE}
use Rattle.tests_with.specs.PairLaws.{keeps_both, ports_both, only_kept}
use Rattle.tests_threads.proofs.live_threads.settle.Goals as goal

pub loop-round-preserved : goal.loop-round-preserved
loop-round-preserved c =
    let port = ports_both c.loop-round.port c.meet.new.port c.serve.new.port c.meet.ensures.same.0 c.serve.ensures in
    let client = keeps_both c.loop-round.client c.meet.new.client c.flush.new.client c.meet.ensures.same.1 c.flush.ensures.same in
    (c.flush.ensures.left MIN_SIZE 1 (c.meet.ensures.left MIN_SIZE 1 c.loop-round.invariant.0), only_kept c.loop-round.port c.serve.new.port c.loop-round.client c.flush.new.client port client c.loop-round.invariant.1)
