-- The entries of a ledger, kept by trace, and the records of which it says that they were reported.
use Rattle.std.specs.Prelude.{◌≡◌, ℕ, Bool, true, false, List, [], ◌∷◌, map, filter, refl}
use Rattle.std.specs.List.{list_any}
use Rattle.std.specs.List.Sorted.{IsNonDecreasingBy}
use Rattle.std.specs.HashSet.{contains}
use Rattle.hs_base.specs.declared.ids.TraceId.{TraceId}
use Rattle.hs_base.specs.declared.ids.RecordId.{RecordId}
use Rattle.hs_base.specs.declared.told.Fate.{Fate}
use Rattle.hs_base.specs.declared.told.Fate.TheVariants.{Null, Live, Evicted}
use Rattle.hs_collect.specs.Collected.{is_same}
use Rattle.hs_ledger.specs.declared.ledger.Entry.{Entry}
use Rattle.hs_law_outcome.specs.CollectedReports.{was_reported}
use Rattle.hs_law_outcome.specs.Reports.{is_of}
use Rattle.hs_report.specs.declared.fates.Fates.{Fates}

-- the entries of each trace are those of this ledger, in their order, and stand together
pub record AreByTrace (entries by_trace : List Entry) : Type 0 where
  pub rise : IsNonDecreasingBy (λ (entry : Entry). entry.trace.0) by_trace
  pub same : (trace : TraceId) → filter (is_of trace) by_trace ≡ filter (is_of trace) entries

-- whether a trace has a record
abbrev pub has_entry : List Entry → TraceId → Bool
has_entry entries trace = list_any (is_of trace) entries

-- the fates are those of these entries
pub record AreFatesOf (entries : List Entry) (fates : Fates) : Type 0 where
  pub by_trace : AreByTrace entries fates.by_trace.items
  pub reported : (id : RecordId) → contains is_same fates.reported id ≡ was_reported entries id

-- ---- worked examples

abbrev entry_of : (trace number : ℕ) → Fate → Entry
entry_of trace number fate = record { id = record { client = record { node = 0; number = 0 }; number = number }; trace = record { 0 = trace }; fate = fate }

abbrev pub two_traces : List Entry
two_traces = entry_of 9 0 Live ∷ entry_of 7 1 (Null 3) ∷ entry_of 9 2 (Evicted 2 1) ∷ []

-- sorted by trace: the entries of the trace 9 stay in their order
sorted_by_trace : (filter (is_of (record { 0 = 9 })) (entry_of 7 1 (Null 3) ∷ entry_of 9 0 Live ∷ entry_of 9 2 (Evicted 2 1) ∷ []) ≡ filter (is_of (record { 0 = 9 })) two_traces)
    × (map (λ (entry : Entry). entry.id.number) (filter (is_of (record { 0 = 9 })) two_traces) ≡ 0 ∷ 2 ∷ [])
sorted_by_trace = (refl, refl)

a_trace_with_records : has_entry two_traces (record { 0 = 7 }) ≡ true
a_trace_with_records = refl

a_trace_without : has_entry two_traces (record { 0 = 8 }) ≡ false
a_trace_without = refl

no_entry_no_trace : has_entry [] (record { 0 = 7 }) ≡ false
no_entry_no_trace = refl

-- a record with a gap's fate was not reported
not_reported : was_reported two_traces (record { client = record { node = 0; number = 0 }; number = 0 }) ≡ false
not_reported = refl
