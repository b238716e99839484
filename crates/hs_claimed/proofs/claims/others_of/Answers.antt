use Rattle.std.proofs.Common.{◌≡◌, ◌<◌, length, get_or, take, [], sym, ap, ◌∙◌, arith, rules}
use Rattle.std.proofs.lemmas.Option.{slice_get-get_or, same_Some}
use Rattle.std.proofs.lemmas.List.Sums.{fold_more}
use Rattle.hs_claimed.specs.Claims.{with_other, others}
use Rattle.hs_claimed.proofs.Steps.{others_longer}
use Rattle.hs_claimed.proofs.claims.others_of.Goals as goal

pub returns-in_default : goal.returns-in_default
returns-in_default c =
    let xs = c.args.laterals.now in
    let i = c.loop-place.place in
    let within : i < length xs = omega (arith, c.len-place-end.ensures.value) in
    search (rules, slice_get-get_or xs i c.args.lead within)

pub loop-place-preserved : goal.loop-place-preserved
loop-place-preserved c =
    let xs = c.args.laterals.now in
    let i = c.loop-place.place in
    let x = c.in-Some.trace in
    let within : i < length xs = omega (arith, c.len-place-end.ensures.value) in
    let same : x ≡ get_or xs i x = same_Some x (get_or xs i x) (sym c.in-Some.is ∙ c.get.ensures ∙ slice_get-get_or xs i x within) in
    let now = c.add_other.ensures in
    let so = c.loop-place.invariant in (
      now ∙ ap (λ o. with_other c.args.lead o x) so.0 ∙ ap (with_other c.args.lead (others c.args.lead (take i xs))) same ∙ sym (fold_more (with_other c.args.lead) [] xs i x within),
      (let grown = others_longer c.args.lead c.loop-place.others x in let is = ap length now in let few = so.1 in omega (arith, grown, is, few)),
    )
