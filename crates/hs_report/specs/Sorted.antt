-- What the reports of an outcome are written from, once the entries of the claimed traces are sorted by trace; and the line that counts
-- the reports.
use Rattle.std.specs.Prelude.{◌≡◌, ℕ, List, [], ◌∷◌, map, codes, decimal}
use Rattle.hs_base.specs.declared.ids.TraceId.{TraceId}
use Rattle.hs_collect.specs.Collected.{Placed}
use Rattle.hs_records.specs.Journals.{PlainJournal}
use Rattle.hs_ledger.specs.declared.ledger.Entry.{Entry}
use Rattle.hs_law_outcome.specs.Outcomes.{outcome_of}
use Rattle.hs_law_outcome.specs.Reports.{report_of, reports_in}
use Rattle.hs_records.specs.Plain.{PlainWorkload}
use Rattle.hs_text.specs.Text.{line_of}
use Rattle.hs_report.specs.declared.fates.Sorted.{Sorted}
use Rattle.hs_outcome.specs.declared.outcome.Outcome.{Outcome}
use Rattle.hs_report.specs.Kept.{kept_of}
use Rattle.hs_report.specs.Sources.{Hold, report_by}

-- the records that a report shows, of a ledger with these entries
abbrev pub records_by : PlainWorkload → List Entry → TraceId → List Placed
records_by W entries trace = (report_of W entries trace).records

-- The fates are those of the entries that stay, and the reports of the traces are those of the workload and the journal.
pub record AreSorted (W : PlainWorkload) (J : PlainJournal) (outcome : Outcome) (sorted : Sorted) : Type 0 where
  pub hold : Hold (kept_of outcome) (records_by W outcome.ledger.entries.items) sorted.fates outcome.collector
  pub reports : map (report_by (kept_of outcome) (records_by W outcome.ledger.entries.items)) sorted.traces.items ≡ reports_in W (outcome_of W J)

abbrev pub count_line : ℕ → List ℕ
count_line count = line_of (codes "reports" ∷ decimal count ∷ [])
