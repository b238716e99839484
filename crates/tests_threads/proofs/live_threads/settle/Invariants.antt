use Rattle.hs_base.specs.declared.limits.TheConstants.{MIN_SIZE}
use Rattle.tests_with.specs.Pairs.{CanCall, IsOnly}
use Rattle.tests_threads.proofs.live_threads.settle.Given as goal

abbrev pub invariant-loop-round : goal.invariant-loop-round
invariant-loop-round l = CanCall MIN_SIZE 1 l.client × IsOnly l.port l.client
