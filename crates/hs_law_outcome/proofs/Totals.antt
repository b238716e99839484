-- Each fate is one of five, so the five counts sum to the length.
use Rattle.std.proofs.Common.{◌≡◌, ◌+◌, Bool, List, [], ◌∷◌, length, refl, sym, ap, ◌∙◌, arith}
use Rattle.hs_law_outcome.proofs.Prelude.{length-map, sum_by-cons, one_if, Fate, Live, Entry, is_reported, outcome_of, EachRecordHasOneEntry, name_of}
use Rattle.hs_base.specs.declared.told.Fate.TheVariants.{Null, Reported, Evicted, Abandoned}
use Rattle.hs_ledger.specs.Totals.{is_live, is_null, is_evicted, is_abandoned, count_fates}
use Rattle.hs_law_outcome.specs.Records.{TotalsCountTheRecords}

one_of_five : (fate : Fate) → one_if (is_live fate) + one_if (is_reported fate) + one_if (is_null fate) + one_if (is_evicted fate) + one_if (is_abandoned fate) ≡ 1
one_of_five (Null stamp) = refl
one_of_five Live = refl
one_of_five (Reported trigger lead) = refl
one_of_five (Evicted chunks traces) = refl
one_of_five (Abandoned trigger lead rank) = refl

count_more : (passes : Fate → Bool) (entry : Entry) (entries : List Entry) → count_fates passes (entry ∷ entries) ≡ one_if (passes entry.fate) + count_fates passes entries
count_more passes entry entries = sum_by-cons (λ (e : Entry). one_if (passes e.fate)) entry entries

parts_sum : (entries : List Entry) → count_fates is_live entries + count_fates is_reported entries + count_fates is_null entries + count_fates is_evicted entries + count_fates is_abandoned entries ≡ length entries
parts_sum [] = refl
parts_sum (entry ∷ entries) =
    let live = count_more is_live entry entries in
    let reported = count_more is_reported entry entries in
    let null = count_more is_null entry entries in
    let evicted = count_more is_evicted entry entries in
    let abandoned = count_more is_abandoned entry entries in
    let first = one_of_five entry.fate in
    let rest = parts_sum entries in
    omega (arith, live, reported, null, evicted, abandoned, first, rest)

pub totals_count_the_records : EachRecordHasOneEntry → TotalsCountTheRecords
totals_count_the_records each W J ends shape =
    parts_sum (outcome_of W J).entries ∙ sym (length-map (outcome_of W J).entries name_of) ∙ ap length (each W J ends shape)
