use Rattle.std.proofs.Common.{◌≡◌}
use Rattle.tests_threads.proofs.links.receive_one.Given as goal

abbrev pub invariant-loop : goal.invariant-loop
invariant-loop g l = l.receiver.link ≡ l.initial.receiver.link
