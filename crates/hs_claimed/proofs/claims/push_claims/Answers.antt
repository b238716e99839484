use Rattle.std.proofs.Common.{◌≡◌, List, ◌<◌, length, get_or, map, take, [], ◌∷◌, ◌++◌, sym, ap, ◌∙◌, arith, rules}
use Rattle.std.proofs.lemmas.Option.{slice_get-get_or, same_Some}
use Rattle.std.proofs.lemmas.List.{map_more, append_assoc}
use Rattle.hs_base.specs.declared.ids.TraceId.{TraceId}
use Rattle.hs_claimed.specs.declared.answers.StatedClaim.{StatedClaim}
use Rattle.hs_claimed.specs.Claims.{claim_of}
use Rattle.hs_claimed.proofs.claims.push_claims.Goals as goal

pub returns-in_default-clause-items : goal.returns-in_default-clause-items
returns-in_default-clause-items c =
    let xs = c.args.traces.now in
    let i = c.loop-place.place in
    let within : i < length xs = omega (arith, c.len-place-end.ensures.value) in
    search (rules, slice_get-get_or xs i (record { 0 = 0 }) within)

pub loop-place-preserved : goal.loop-place-preserved
loop-place-preserved c =
    let xs = c.args.traces.now in
    let i = c.loop-place.place in
    let x = c.in-Some.trace in
    let within : i < length xs = omega (arith, c.len-place-end.ensures.value) in
    let same : x ≡ get_or xs i x = same_Some x (get_or xs i x) (sym c.in-Some.is ∙ c.get.ensures ∙ slice_get-get_or xs i x within) in
    let so = c.loop-place.invariant in (
      c.push_back_reserved.ensures.items
          ∙ ap (λ (claim : StatedClaim). c.loop-place.claims.items ++ claim ∷ []) c.new.ensures
          ∙ ap (λ (claims : List StatedClaim). claims ++ claim_of c.args.group x ∷ []) so.0
          ∙ append_assoc c.args.claims.now.items (map (claim_of c.args.group) (take i xs)) (claim_of c.args.group x ∷ [])
          ∙ ap (λ (y : TraceId). c.args.claims.now.items ++ (map (claim_of c.args.group) (take i xs) ++ claim_of c.args.group y ∷ [])) same
          ∙ ap (λ (claims : List StatedClaim). c.args.claims.now.items ++ claims) (sym (map_more (claim_of c.args.group) xs i x within)),
      (let long = c.push_back_reserved.ensures.len in let few = so.1 in omega (arith, long, few)),
      c.push_back_reserved.ensures.capacity ∙ so.2,
    )
