use Rattle.std.proofs.Common.{◌≡◌, drop}
use Rattle.hs_check.proofs.Prelude.{all_beside}
use Rattle.hs_check.proofs.gives.all_beside.Given as goal

abbrev pub invariant-loop-page : goal.invariant-loop-page
invariant-loop-page l =
    all_beside l.stride l.stamps l.counts (drop l.page l.started) (drop l.page l.draws) ≡ all_beside l.stride l.stamps l.counts l.started l.draws
