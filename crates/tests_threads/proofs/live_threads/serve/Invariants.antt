use Rattle.tests_with.specs.Pairs.{KeepsPort}
use Rattle.tests_threads.proofs.live_threads.serve.Given as goal

abbrev pub invariant-loop : goal.invariant-loop
invariant-loop l = KeepsPort l.initial.port l.port
