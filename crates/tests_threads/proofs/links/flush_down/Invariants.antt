use Rattle.std.proofs.Common.{◌≡◌}
use Rattle.tests_threads.proofs.links.flush_down.Given as goal

abbrev pub invariant-loop : goal.invariant-loop
invariant-loop g l = l.sender.link ≡ l.initial.sender.link
