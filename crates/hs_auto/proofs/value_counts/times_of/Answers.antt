use Rattle.std.proofs.Common.{sym, ap, ◌∙◌, arith}
use Rattle.std.proofs.lemmas.List.{get_or_default}
use Rattle.hs_auto.specs.declared.value_counts.ValueCount.{ValueCount}
use Rattle.hs_auto.proofs.CountLemmas.{times_present, times_absent}
use Rattle.hs_auto.proofs.value_counts.times_of.Goals as goal
use Rattle.hs_auto.proofs.value_counts.times_of.Goals.{else-place-counts-via-then-place-counts+else-counts-place, else-place-counts-via-else-place-counts}

abbrev no_count : ValueCount
no_count = record { value = 0; count = 0 }

pub returns-then-counts-place : goal.returns-then-counts-place
returns-then-counts-place c =
    sym (times_present c.args.counts.now c.args.value c.place_of-place.result no_count c.requires c.place_of-place.ensures c.if-place-counts.true c.if-counts-place.true)

pub returns : goal.returns
returns c =
    let ts = c.args.counts.now in
    let i = c.place_of-place.result in
    sym (times_absent ts c.args.value i c.requires c.place_of-place.ensures
    (λ d within same.
    elim c.else-place-counts.branch [
      | else-place-counts-via-then-place-counts+else-counts-place w ↦ w.if-counts-place.false (ap (λ (t : ValueCount). t.value) (get_or_default ts i no_count d within) ∙ same)
      | else-place-counts-via-else-place-counts w ↦ omega (arith, w.if-place-counts.false, within)
    ]))
