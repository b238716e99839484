use Rattle.tests_with.specs.Pairs.{HasClient}
use Rattle.bench.proofs.live.give_all.Given as goal

abbrev pub invariant-loop : goal.invariant-loop
invariant-loop g l = HasClient l.port
