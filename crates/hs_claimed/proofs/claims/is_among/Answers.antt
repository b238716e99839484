use Rattle.std.proofs.Common.{◌≡◌, ◌<◌, length, get_or, true, false, eqb, sym, ◌∙◌, arith}
use Rattle.std.proofs.lemmas.Bool.{or_from}
use Rattle.std.proofs.lemmas.List.Folds.{list_any_at, list_any_more}
use Rattle.std.proofs.lemmas.Option.{slice_get-get_or}
use Rattle.hs_base.specs.Ids.{same_trace}
use Rattle.hs_claimed.proofs.claims.is_among.Goals as goal

pub returns-then-eq : goal.returns-then-eq
returns-then-eq c =
    let xs = c.args.traces.now in
    let at = c.loop-place.place in
    let within : at < length xs = omega (arith, c.len-place-end.ensures.value) in
    let same : true ≡ eqb c.args.trace.0 (get_or xs at c.args.trace).0 = rw (c.get.ensures ∙ slice_get-get_or xs at c.args.trace within) at c.if-eq.ensures in
    sym (list_any_at (same_trace c.args.trace) xs at c.args.trace within (sym same))

pub loop-place-preserved : goal.loop-place-preserved
loop-place-preserved c =
    let xs = c.args.traces.now in
    let at = c.loop-place.place in
    let within : at < length xs = omega (arith, c.len-place-end.ensures.value) in
    let apart : false ≡ eqb c.args.trace.0 (get_or xs at c.args.trace).0 = rw (c.get.ensures ∙ slice_get-get_or xs at c.args.trace within) at c.if-eq.ensures in
    list_any_more (same_trace c.args.trace) xs at c.args.trace within ∙ or_from _ _ c.loop-place.invariant (sym apart)
