use Rattle.tests_with.specs.Pairs.{KeepsPort}
use Rattle.tests_threads.proofs.live_threads.serve_meanwhile.Given as goal

abbrev pub invariant-loop-round : goal.invariant-loop-round
invariant-loop-round l = KeepsPort l.initial.port l.port
