use Rattle.hs_run_actors.proofs.Resting.{GivenBelow}
use Rattle.hs_run_actors.proofs.rests.all_given.Given as goal

abbrev pub invariant-loop-rest : goal.invariant-loop-rest
invariant-loop-rest g l = GivenBelow l.rest-index l.rests.items
