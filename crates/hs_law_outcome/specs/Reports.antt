-- The reports of an outcome. A trace has one where some node claimed it and it has a record. A report has the trace's records that
-- were reported, each with its whole payload, and a gap with its fate for each other record of the trace. Both stand in the order
-- of node, client and number, and the reports by rising trace.
use Rattle.std.specs.Prelude.{Bool, not, ◌&&◌, ◌==◌, List, map, filter, filter_map, slice_get, Option, option_map}
use Rattle.std.specs.List.{list_any}
use Rattle.hs_base.specs.declared.ids.TraceId.{TraceId}
use Rattle.hs_base.specs.declared.ids.RecordId.{RecordId}
use Rattle.hs_collect.specs.Collected.{Placed}
use Rattle.hs_records.specs.Journals.{PlainJournal}
use Rattle.hs_ledger.specs.declared.ledger.Entry.{Entry}
use Rattle.hs_ledger.specs.Totals.{is_reported}
use Rattle.hs_records.specs.Plain.{PlainWorkload}
use Rattle.hs_records.specs.Records.{Record, records_of}
use Rattle.hs_client.specs.Sending.{operations_at, place_of}
use Rattle.hs_law_outcome.specs.Outcomes.{PlainOutcome, outcome_of}

pub record Report : Type 0 where
  pub trace : TraceId
  pub records : List Placed
  pub gaps : List Entry

-- the record of an id, with its whole payload
abbrev pub record_of : PlainWorkload → RecordId → Option Record
record_of W id = slice_get (records_of (operations_at W (place_of W.settings.clients id.client.node id.client.number))) id.number

abbrev pub whole_of : PlainWorkload → Entry → Option Placed
whole_of W entry = option_map (λ (r : Record). record { id = entry.id; moment = r.moment; payload = r.payload }) (record_of W entry.id)

abbrev pub is_of : TraceId → Entry → Bool
is_of trace entry = entry.trace.0 == trace.0

-- the report of a trace over all entries
abbrev pub report_of : PlainWorkload → List Entry → TraceId → Report
report_of W entries trace =
    record {
      trace = trace;
      records = filter_map (whole_of W) (filter (λ (entry : Entry). is_of trace entry && is_reported entry.fate) entries);
      gaps = filter (λ (entry : Entry). is_of trace entry && not (is_reported entry.fate)) entries;
    }

-- the claimed traces that have a record
abbrev pub reported_traces : PlainOutcome → List TraceId
reported_traces outcome = filter (λ trace. list_any (is_of trace) outcome.entries) outcome.claimed

abbrev pub reports_in : PlainWorkload → PlainOutcome → List Report
reports_in W outcome = map (report_of W outcome.entries) (reported_traces outcome)

abbrev pub reports_of : PlainWorkload → PlainJournal → List Report
reports_of W J = reports_in W (outcome_of W J)
