-- The totals count the entries of a ledger: all of them, and those of each fate.
use Rattle.std.specs.Prelude.{◌≡◌, ℕ, ◌+◌, if◌then◌else◌, Bool, true, false, List, [], ◌∷◌, length, count_by, refl}
use Rattle.hs_base.specs.declared.told.Fate.{Fate}
use Rattle.hs_base.specs.declared.told.Fate.TheVariants.{Null, Live, Reported, Evicted, Abandoned}
use Rattle.hs_ledger.specs.declared.ledger.Entry.{Entry}
use Rattle.hs_ledger.specs.declared.ledger.Totals.{Totals}

abbrev pub is_live : Fate → Bool
is_live Live = true
is_live (Null stamp) = false
is_live (Reported trigger lead) = false
is_live (Evicted chunks traces) = false
is_live (Abandoned trigger lead rank) = false

abbrev pub is_reported : Fate → Bool
is_reported Live = false
is_reported (Null stamp) = false
is_reported (Reported trigger lead) = true
is_reported (Evicted chunks traces) = false
is_reported (Abandoned trigger lead rank) = false

abbrev pub is_null : Fate → Bool
is_null Live = false
is_null (Null stamp) = true
is_null (Reported trigger lead) = false
is_null (Evicted chunks traces) = false
is_null (Abandoned trigger lead rank) = false

abbrev pub is_evicted : Fate → Bool
is_evicted Live = false
is_evicted (Null stamp) = false
is_evicted (Reported trigger lead) = false
is_evicted (Evicted chunks traces) = true
is_evicted (Abandoned trigger lead rank) = false

abbrev pub is_abandoned : Fate → Bool
is_abandoned Live = false
is_abandoned (Null stamp) = false
is_abandoned (Reported trigger lead) = false
is_abandoned (Evicted chunks traces) = false
is_abandoned (Abandoned trigger lead rank) = true

-- how many entries have a fate that passes
abbrev pub count_fates : (Fate → Bool) → List Entry → ℕ
count_fates passes entries = count_by (λ entry. passes entry.fate) entries

abbrev pub totals_of : List Entry → Totals
totals_of entries =
    record {
      records = length entries;
      live = count_fates is_live entries;
      reported = count_fates is_reported entries;
      null = count_fates is_null entries;
      evicted = count_fates is_evicted entries;
      abandoned = count_fates is_abandoned entries;
    }

-- the totals with one more entry of this fate
abbrev pub with_fate : Totals → Fate → Totals
with_fate totals fate =
    record {
      records = totals.records + 1;
      live = totals.live + (if is_live fate then 1 else 0);
      reported = totals.reported + (if is_reported fate then 1 else 0);
      null = totals.null + (if is_null fate then 1 else 0);
      evicted = totals.evicted + (if is_evicted fate then 1 else 0);
      abandoned = totals.abandoned + (if is_abandoned fate then 1 else 0);
    }

-- the sum of the five parts
abbrev pub parts_of : Totals → ℕ
parts_of totals = totals.live + totals.reported + totals.null + totals.evicted + totals.abandoned

-- worked example: one live record, one null and one evicted
abbrev record_with : Fate → Entry
record_with fate = record { id = record { client = record { node = 0; number = 0 }; number = 0 }; trace = record { 0 = 1 }; fate = fate }

three_entries : totals_of (record_with (Null 4) ∷ record_with Live ∷ record_with (Evicted 1 2) ∷ []) ≡ record { records = 3; live = 1; reported = 0; null = 1; evicted = 1; abandoned = 0 }
three_entries = refl
