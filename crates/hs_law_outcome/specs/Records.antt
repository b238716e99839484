-- The records of a workload, one after another: client by client in the order of node and number, and of each client by number, each
-- with its trace. A ledger has one entry for each of them, and the report of a trace has each record of it once.
use Rattle.std.specs.Prelude.{◌≡◌, ℕ, ◌+◌, ◌≤◌, true, false, ◌==◌, List, [], ◌∷◌, ◌++◌, length, map, filter, Some, IsPermutation, refl}
use Rattle.std.specs.List.{AllByRecursion, flat_map, range_with_len}
use Rattle.hs_base.specs.declared.ids.ClientId.{ClientId}
use Rattle.hs_base.specs.declared.ids.RecordId.{RecordId}
use Rattle.hs_base.specs.declared.ids.TraceId.{TraceId}
use Rattle.hs_base.specs.declared.limits.TheConstants.{MIN_SIZE}
use Rattle.hs_collect.specs.Collected.{Placed, Precedes}
use Rattle.hs_records.specs.Journals.{PlainJournal}
use Rattle.hs_ledger.specs.declared.ledger.Entry.{Entry}
use Rattle.hs_ledger.specs.Totals.{is_reported, totals_of, parts_of}
use Rattle.hs_records.specs.Plain.{PlainWorkload}
use Rattle.hs_records.specs.Records.{AreBracketed, Record, records_of}
use Rattle.hs_client.specs.Sending.{operations_at}
use Rattle.hs_law_journal.specs.Played.{played}
use Rattle.hs_law_journal.specs.Shape.{has_shape}
use Rattle.hs_law_journal.specs.Workloads.{short_of_pins}
use Rattle.hs_law_outcome.specs.Outcomes.{client_at, outcome_of}
use Rattle.hs_law_outcome.specs.Reports.{Report, record_of, reports_of}

-- a record by its id, with its trace
pub record Named : Type 0 where
  pub id : RecordId
  pub trace : TraceId

-- these records of a client, of which the first has this number
abbrev pub named_from : ClientId → ℕ → List Record → List Named
named_from client number [] = []
named_from client number (r ∷ records) = record { id = record { client = client; number = number }; trace = r.trace } ∷ named_from client (number + 1) records

-- the records of the client at a place
abbrev pub client_records : PlainWorkload → ℕ → List Named
client_records W place = named_from (client_at W.settings.clients place) 0 (records_of (operations_at W place))

abbrev pub all_records : PlainWorkload → List Named
all_records W = flat_map (client_records W) (range_with_len 0 (length W.clients))

-- the records of a trace
abbrev pub trace_records : PlainWorkload → TraceId → List Named
trace_records W trace = filter (λ (r : Named). r.trace.0 == trace.0) (all_records W)

-- of which record an entry is
abbrev pub name_of : Entry → Named
name_of entry = record { id = entry.id; trace = entry.trace }

-- Pages have their least size at least, and each client ends the traces that it begins. Every valid workload keeps this.
pub record EndsItsTraces (W : PlainWorkload) : Type 0 where
  pub size : MIN_SIZE ≤ W.settings.size
  pub ends : AllByRecursion (AreBracketed false) W.clients

-- ---- the ledger

-- The ledger has the records of the workload, each once and in their order.
abbrev pub EachRecordHasOneEntry : Type 0
EachRecordHasOneEntry = (W : PlainWorkload) (J : PlainJournal) → EndsItsTraces W → has_shape (played W J) ≡ true → map name_of (outcome_of W J).entries ≡ all_records W

-- The five totals sum to the number of records.
abbrev pub TotalsCountTheRecords : Type 0
TotalsCountTheRecords =
    (W : PlainWorkload) (J : PlainJournal) → EndsItsTraces W → has_shape (played W J) ≡ true → parts_of (totals_of (outcome_of W J).entries) ≡ length (all_records W)

-- ---- reports

-- The record that a report shows is a record of the trace, with its moment and its payload whole.
abbrev pub IsWholeRecord : PlainWorkload → TraceId → Placed → Type 0
IsWholeRecord W trace placed = record_of W placed.id ≡ Some (record { trace = trace; moment = placed.moment; payload = placed.payload })

abbrev pub placed_ids : List Placed → List RecordId
placed_ids records = map (λ (p : Placed). p.id) records

abbrev pub entry_ids : List Entry → List RecordId
entry_ids entries = map (λ (e : Entry). e.id) entries

-- each id comes before all behind it
abbrev pub ComeInOrder : List RecordId → Type 0
ComeInOrder [] = Unit {0}
ComeInOrder (id ∷ ids) = AllByRecursion (Precedes id) ids × ComeInOrder ids

-- A report shows each record of its trace once: whole, where its fate is that it was reported, or as a gap with another fate. Both
-- lists go by node, client and number.
pub record ShowsItsTrace (W : PlainWorkload) (report : Report) : Type 0 where
  pub all : IsPermutation (map (λ (r : Named). r.id) (trace_records W report.trace)) (placed_ids report.records ++ entry_ids report.gaps)
  pub whole : AllByRecursion (IsWholeRecord W report.trace) report.records
  pub lost : AllByRecursion (λ (gap : Entry). is_reported gap.fate ≡ false) report.gaps
  pub records_in_order : ComeInOrder (placed_ids report.records)
  pub gaps_in_order : ComeInOrder (entry_ids report.gaps)

abbrev pub ReportsShowTheirTraces : Type 0
ReportsShowTheirTraces =
    (W : PlainWorkload) (J : PlainJournal) → EndsItsTraces W → has_shape (played W J) ≡ true → AllByRecursion (ShowsItsTrace W) (reports_of W J)

-- ---- examples

-- two nodes with a client each, and three records of each
two_by_three : map (λ (r : Named). r.id) (all_records short_of_pins)
    ≡ record { client = record { node = 0; number = 0 }; number = 0 } ∷ record { client = record { node = 0; number = 0 }; number = 1 }
    ∷ record { client = record { node = 0; number = 0 }; number = 2 } ∷ record { client = record { node = 1; number = 0 }; number = 0 }
    ∷ record { client = record { node = 1; number = 0 }; number = 1 } ∷ record { client = record { node = 1; number = 0 }; number = 2 } ∷ []
two_by_three = refl

-- the trace 0 has the first of each client
one_of_each : map (λ (r : Named). r.id.client.node) (trace_records short_of_pins (record { 0 = 0 })) ≡ 0 ∷ 1 ∷ []
one_of_each = refl
