use Rattle.std.proofs.Common.{◌*◌, ◌≤◌}
use Rattle.tests_threads.specs.declared.live_size.TheConstants.{CAPACITY}
use Rattle.tests_with.specs.Pairs.{KeepsPort}
use Rattle.tests_threads.proofs.live_size.takes_all.Given as goal

abbrev pub invariant-loop-round : goal.invariant-loop-round
invariant-loop-round l = KeepsPort l.initial.port l.port × (l.right ≤ CAPACITY * l.round)
