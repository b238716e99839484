use Rattle.tests_with.specs.Pairs.{KeepsPort, IsOfPool}
use Rattle.tests_with.proofs.moves.give_back.Given as goal

abbrev pub invariant-loop-misses : goal.invariant-loop-misses
invariant-loop-misses l = IsOfPool l.port l.held × KeepsPort l.initial.port l.port
