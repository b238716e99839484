use Rattle.hs_base.specs.declared.limits.TheConstants.{MAX_SIZE}
use Rattle.tests_with.specs.Pairs.{CanCall}
use Rattle.bench.proofs.live.record.Given as goal

abbrev pub invariant-loop-moment : goal.invariant-loop-moment
invariant-loop-moment l = CanCall MAX_SIZE l.left l.client
