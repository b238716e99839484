use Rattle.std.proofs.Common.{◌≡◌, ◌<◌, length, take, get_or, sym, ap, ◌∙◌, arith}
use Rattle.std.specs.Prelude.{fold}
use Rattle.std.proofs.lemmas.List.Sums.{fold_more}
use Rattle.std.proofs.lemmas.Option.{slice_get-get_or, same_Some}
use Rattle.hs_receipts.specs.Receipts.{PlainReceipts}
use Rattle.hs_hub.specs.Hub.{noted}
use Rattle.hs_hub.proofs.hub.note_each.Goals as goal

pub loop-place-preserved : goal.loop-place-preserved
loop-place-preserved c =
    let f = noted c.args.now c.args.message in
    let xs = c.args.traces.now in
    let i = c.loop-place.place in
    let x = c.in-Some.trace in
    let within : i < length xs = omega (arith, c.len-place-end.ensures.value) in
    let same : x ≡ get_or xs i x = same_Some x (get_or xs i x) (sym c.in-Some.is ∙ c.get.ensures ∙ slice_get-get_or xs i x within) in
    c.note.ensures ∙ ap (λ (r : PlainReceipts). f r x) c.loop-place.invariant ∙ ap (f (fold f c.args.receipts.now (take i xs))) same ∙ sym (fold_more f c.args.receipts.now xs i x within)
