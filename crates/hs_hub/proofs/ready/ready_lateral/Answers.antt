use Rattle.std.proofs.Common.{rules, ◌≡◌, ◌<◌, ◌+◌, cond, true, false, length, drop, find, get_or, Some, sym, ap, ◌∙◌, arith}
use Rattle.std.proofs.lemmas.Option.{slice_get-get_or, same_Some}
use Rattle.hs_base.proofs.Parts.{drop_next}
use Rattle.hs_hub.specs.Ready.{is_ready}
use Rattle.hs_hub.proofs.ready.ready_lateral.Goals as goal

pub returns-then-is_ready : goal.returns-then-is_ready
returns-then-is_ready c =
    let p = is_ready c.args.groups.now c.args.standings.now c.args.traces.now in
    let xs = c.args.laterals.now in
    let i = c.loop-place.place in
    let x = c.in-Some.trace in
    let within : i < length xs = omega (arith, c.len-place-end.ensures.value) in
    let same : x ≡ get_or xs i x = same_Some x (get_or xs i x) (sym c.in-Some.is ∙ c.get.ensures ∙ slice_get-get_or xs i x within) in
    let yes : p x ≡ true = search rules in
    ap (λ b. cond b (Some x) (find p (drop (i + 1) xs))) (sym yes) ∙ ap (find p) (sym (drop_next xs i x within same)) ∙ c.loop-place.invariant

pub loop-place-preserved : goal.loop-place-preserved
loop-place-preserved c =
    let p = is_ready c.args.groups.now c.args.standings.now c.args.traces.now in
    let xs = c.args.laterals.now in
    let i = c.loop-place.place in
    let x = c.in-Some.trace in
    let within : i < length xs = omega (arith, c.len-place-end.ensures.value) in
    let same : x ≡ get_or xs i x = same_Some x (get_or xs i x) (sym c.in-Some.is ∙ c.get.ensures ∙ slice_get-get_or xs i x within) in
    let no : p x ≡ false = search rules in
    ap (λ b. cond b (Some x) (find p (drop (i + 1) xs))) (sym no) ∙ ap (find p) (sym (drop_next xs i x within same)) ∙ c.loop-place.invariant
