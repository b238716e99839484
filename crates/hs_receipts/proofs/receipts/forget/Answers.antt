use Rattle.std.proofs.Common.{rules, not, length, filter, refl, ap, arith}
use Rattle.std.proofs.lemmas.Fn.{filter_same}
use Rattle.std.proofs.lemmas.List.{length-map}
use Rattle.std.proofs.lemmas.List.Filters.{length-filter_both}
use Rattle.hs_receipts.specs.declared.answers.Waiting.{Waiting}
use Rattle.hs_receipts.specs.Receipts.{is_for}
use Rattle.hs_receipts.proofs.receipts.forget.Goals as goal

pub returns-clause-items : goal.returns-clause-items
returns-clause-items c = filter_same _ _ _ (λ x b f' k. search rules) _ _ c.retain.ensures.filtered

pub returns-clause-len : goal.returns-clause-len
returns-clause-len c =
    let p = is_for c.args.trace in
    let here = c.args.waiting.now.items in
    let left = ap length (returns-clause-items c) in
    let moved = length-map (filter p here) (λ (w : Waiting). w.message) in
    let both = length-filter_both p (λ w. not (p w)) (λ w. refl) here in
    omega (arith, left, moved, both)
