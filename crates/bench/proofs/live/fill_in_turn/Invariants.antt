use Rattle.hs_base.specs.declared.limits.TheConstants.{MAX_SIZE}
use Rattle.tests_with.specs.Pairs.{CanCall, HasClient}
use Rattle.bench.proofs.live.fill_in_turn.Given as goal

abbrev pub invariant-loop-page : goal.invariant-loop-page
invariant-loop-page g l =
    CanCall MAX_SIZE l.left l.one.0 × HasClient l.one.1 × CanCall MAX_SIZE l.right l.other.0 × HasClient l.other.1
