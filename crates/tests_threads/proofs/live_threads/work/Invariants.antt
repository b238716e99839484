use Rattle.std.proofs.Common.{◌+◌, ◌-◌, ◌*◌}
use Rattle.hs_base.specs.declared.limits.TheConstants.{MIN_SIZE}
use Rattle.tests_with.specs.Pairs.{CanCall, KeepsClient}
use Rattle.tests_threads.proofs.live_threads.work.Given as goal

abbrev pub invariant-loop-round : goal.invariant-loop-round
invariant-loop-round l = CanCall MIN_SIZE (14 * (100 - l._round) + 1) l.client × KeepsClient l.initial.client l.client
