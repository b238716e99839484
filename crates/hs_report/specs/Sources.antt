-- From what the reports of an outcome are written: the entries of its ledger by trace, and what its collector joined. Which of the
-- joined records a report shows is the ledger's matter; of a record that lost a piece the collector may have another.
use Rattle.std.specs.Prelude.{◌≡◌, ◌&&◌, not, List, [], ◌∷◌, map, filter, refl}
use Rattle.hs_base.specs.declared.ids.TraceId.{TraceId}
use Rattle.hs_collect.specs.Collected.{Placed, AreCollected, AreWholes, pieces_of}
use Rattle.hs_collect.specs.Views.{Sheets, Collection}
use Rattle.hs_ledger.specs.declared.ledger.Entry.{Entry}
use Rattle.hs_ledger.specs.Totals.{is_reported}
use Rattle.hs_law_outcome.specs.CollectedReports.{reported_wholes}
use Rattle.hs_law_outcome.specs.Reports.{Report, is_of}
use Rattle.hs_report.specs.declared.fates.Fates.{Fates}
use Rattle.hs_report.specs.Fates.{AreFatesOf, two_traces}

-- the entries of a trace's other records
abbrev pub gaps_of : List Entry → TraceId → List Entry
gaps_of entries trace = filter (λ (entry : Entry). is_of trace entry && not (is_reported entry.fate)) entries

-- the report of a trace that shows these records
abbrev pub report_by : List Entry → (TraceId → List Placed) → TraceId → Report
report_by entries records trace = record { trace = trace; records = records trace; gaps = gaps_of entries trace }

-- What stands in the fates and the collector: these entries, and of each trace the records to show.
pub record Hold (entries : List Entry) (records : TraceId → List Placed) (fates : Fates) (collector : Collection) : Type 0 where
  pub are : AreFatesOf entries fates
  pub sheets : Sheets
  pub collected : AreCollected sheets collector
  pub show : (trace : TraceId) (wholes : List Placed) → AreWholes (pieces_of trace sheets) wholes → reported_wholes entries wholes ≡ records trace

-- ---- worked examples: of the trace 9 the record 0 is live and the record 2 evicted

gaps_of_a_trace : map (λ (entry : Entry). entry.id.number) (gaps_of two_traces (record { 0 = 9 })) ≡ 0 ∷ 2 ∷ []
gaps_of_a_trace = refl

gaps_of_another : map (λ (entry : Entry). entry.id.number) (gaps_of two_traces (record { 0 = 7 })) ≡ 1 ∷ []
gaps_of_another = refl

no_gaps : gaps_of two_traces (record { 0 = 8 }) ≡ []
no_gaps = refl

report_of_gaps : (report_by two_traces (λ trace. []) (record { 0 = 7 })).records ≡ []
report_of_gaps = refl

report_of_its_trace : (report_by two_traces (λ trace. []) (record { 0 = 7 })).trace.0 ≡ 7
report_of_its_trace = refl
