use Rattle.std.proofs.Common.{◌≢◌, ◌<◌, List, length, get_or, sym, ap, ◌∙◌, subst, arith}
use Rattle.std.proofs.lemmas.List.{get_or_read}
use Rattle.hs_auto.specs.declared.value_counts.ValueCount.{ValueCount}
use Rattle.hs_auto.specs.ValueCounts.{AreValueCounts, IsPlace}
use Rattle.hs_auto.proofs.CountLemmas.{counts_insert}
use Rattle.hs_auto.proofs.value_counts.add.Goals as goal
use Rattle.hs_auto.proofs.value_counts.add.Goals.{else-place-len-via-then-place-len+else-index-value, else-place-len-via-else-place-len}

pub returns-clause-counts : goal.returns-clause-counts
returns-clause-counts c =
    let ts = c.args.counts.now.items in
    let v = c.args.value in
    let i = c.place_of-place.result in
    let place : IsPlace ts v i = subst (λ (xs : List ValueCount). IsPlace xs v i) c.deref.ensures.value c.place_of-place.ensures in
    let absent : (d : ValueCount) → i < length ts → (get_or ts i d).value ≢ v =
    λ d within same.
    elim c.else-place-len.branch [
      | else-place-len-via-then-place-len+else-index-value w ↦
          w.if-index-value.false (ap (λ (t : ValueCount). t.value) (get_or_read ts i w.index.result.now within w.index.ensures d) ∙ same)
      | else-place-len-via-else-place-len w ↦ omega (arith, w.if-place-len.false, within, c.len.ensures, c.deref.ensures.len, ap length c.deref.ensures.value)
    ] in
    subst AreValueCounts (sym c.in-Ok.ensures.items) (counts_insert ts i (record { value = v; count = 1 }) c.requires.counts place absent (omega arith))
