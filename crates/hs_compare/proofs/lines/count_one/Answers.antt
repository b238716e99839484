use Rattle.std.proofs.Common.{◌≡◌, ◌+◌, ap, ◌∙◌, arith}
use Rattle.std.proofs.lemmas.Grind.{common_steps}
use Rattle.hs_compare.proofs.Prelude.{unwrap_or, times_in}
use Rattle.hs_compare.proofs.Counted.{counted_more}
use Rattle.hs_compare.proofs.lines.count_one.Goals as goal

pub returns : goal.returns
returns c = λ traces are.
    let old = c.args.counts.now.entries in
    let count = c.or_insert-count.result.now in
    let had : count ≡ times_in old c.args.trace = c.or_insert-count.ensures.value ∙ ap (λ o. unwrap_or o 0) c.in-Ok.ensures.value in
    let long = c.in-Ok.ensures.len (count + 1) in
    counted_more traces c.args.trace old _ are (λ q. let written = (c.in-Ok.ensures.update.0 (count + 1)).0 q in grind (arith, common_steps)) (grind (arith, long))
