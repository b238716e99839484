use Rattle.std.proofs.Common.{◌≤◌}
use Rattle.tests_with.specs.Pairs.{KeepsPort}
use Rattle.tests_threads.proofs.live_size.take_pages.Given as goal

abbrev pub invariant-loop-place : goal.invariant-loop-place
invariant-loop-place l = KeepsPort l.initial.port l.port × (l.right ≤ l.place)
