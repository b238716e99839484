use Rattle.std.proofs.Common.{◌+◌, ◌-◌, ◌*◌, ◌≤◌}
use Rattle.tests_threads.specs.declared.live_size.TheConstants.{RECORDS}
use Rattle.hs_base.specs.declared.limits.TheConstants.{MAX_SIZE}
use Rattle.tests_with.specs.Pairs.{CanCall}
use Rattle.tests_threads.proofs.live_size.record_all.Given as goal

abbrev pub invariant-loop-moment : goal.invariant-loop-moment
invariant-loop-moment l = CanCall MAX_SIZE (3 * (RECORDS - l.moment) + 1) l.client × (l.done ≤ l.moment)
