use Rattle.std.proofs.Common.{◌<◌}
use Rattle.tests_threads.specs.Shown.{EndsBelow}
use Rattle.tests_threads.proofs.board.publish_all.Given as goal

abbrev pub invariant-loop-round : goal.invariant-loop-round
invariant-loop-round g l = EndsBelow l.writer l.round × (l.published < l.round)
