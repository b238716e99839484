use Rattle.std.proofs.Common.{◌≤◌, length, min, sym, ◌∙◌, arith}
use Rattle.hs_check.proofs.Gave.{pages_done}
use Rattle.hs_check.proofs.gives.all_beside.Goals as goal

pub returns : goal.returns
returns c =
    let past : min (length c.args.started.now) (length c.args.draws.now) ≤ c.loop-page.page = omega (arith, c.min-page-end.ensures) in
    sym (pages_done c.args.stride c.args.stamps.now c.args.counts.now c.args.started.now c.args.draws.now c.loop-page.page past) ∙ c.loop-page.invariant
