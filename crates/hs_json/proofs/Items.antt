-- What the loops over records, gaps and traces append: the texts of their items.
use Rattle.std.proofs.Common.{◌≡◌, ℕ, List, ◌++◌, map, ap, ◌∙◌}
use Rattle.std.proofs.lemmas.List.{map-append}
use Rattle.hs_base.specs.declared.ids.TraceId.{TraceId}
use Rattle.hs_collect.specs.Collected.{Placed}
use Rattle.hs_collect.specs.Views.{placed_of}
use Rattle.hs_collect.specs.declared.records.TraceRecord.{TraceRecord}
use Rattle.hs_ledger.specs.declared.ledger.Entry.{Entry}
use Rattle.hs_law_outcome.specs.CollectedReports.{reported_wholes}
use Rattle.hs_report.specs.OutcomeText.{placed_json, gap_json, report_json}
use Rattle.hs_report.specs.Sources.{report_by}
use Rattle.hs_base.proofs.Loops.{Joins}
use Rattle.hs_report.proofs.Loops.{unreported, shown_joins, unreported_join}

abbrev pub record_items : List Entry → List TraceRecord → List (List ℕ)
record_items entries records = map placed_json (reported_wholes entries (map placed_of records))

abbrev pub gap_items : ℕ → List Entry → List (List ℕ)
gap_items version entries = map (gap_json version) (unreported entries)

abbrev pub report_items : ℕ → List Entry → (TraceId → List Placed) → List TraceId → List (List ℕ)
report_items version entries records traces = map (report_json version) (map (report_by entries records) traces)

-- ---- they join

pub record_items_join : (entries : List Entry) → Joins (record_items entries)
record_items_join entries xs ys =
    ap (λ t. map placed_json t) (shown_joins entries xs ys) ∙ map-append placed_json (reported_wholes entries (map placed_of xs)) (reported_wholes entries (map placed_of ys))

pub gap_items_join : (version : ℕ) → Joins (gap_items version)
gap_items_join version xs ys = ap (λ t. map (gap_json version) t) (unreported_join xs ys) ∙ map-append (gap_json version) (unreported xs) (unreported ys)

pub report_items_join : (version : ℕ) (entries : List Entry) (records : TraceId → List Placed) → Joins (report_items version entries records)
report_items_join version entries records xs ys =
    ap (λ t. map (report_json version) t) (map-append (report_by entries records) xs ys) ∙ map-append (report_json version) (map (report_by entries records) xs) (map (report_by entries records) ys)
