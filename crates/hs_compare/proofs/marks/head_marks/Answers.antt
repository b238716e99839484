use Rattle.std.proofs.Common.{◌≤◌, length, map, ap, ◌∙◌, arith}
use Rattle.hs_compare.proofs.Prelude.{take_all, Coming, kept_by_rank}
use Rattle.hs_compare.proofs.marks.head_marks.Goals as goal

pub returns : goal.returns
returns c =
    let past : length c.args.all.now ≤ c.loop-coming.coming-index = omega arith in
    c.loop-coming.invariant ∙ ap (map (λ (x : Coming). kept_by_rank c.args.one_in x.trace)) (take_all c.loop-coming.coming-index c.args.all.now past)
