-- What a collector makes of the pages that were reported. A record that was reported has all its pieces on such pages. The pages can
-- be added in the order of the reports, or in any other that keeps that of the pages of each client and trace. What is then collected
-- of a trace may have parts of records too, of which another piece was lost. The ledger tells these apart: the records whose fate is
-- that they were reported are those of the trace's report, each whole.
use Rattle.std.specs.Prelude.{◌≡◌, ℕ, ◌+◌, ◌<◌, ◌≤◌, ◌^◌, ◌&&◌, Bool, true, false, List, [], ◌∷◌, length, map, filter, replicate, All, Contains, Some, None, slice_get, refl}
use Rattle.std.specs.List.{AllByRecursion, list_any}
use Rattle.hs_base.specs.declared.ids.RecordId.{RecordId}
use Rattle.hs_base.specs.declared.ids.TraceId.{TraceId}
use Rattle.hs_base.specs.declared.told.Fate.TheVariants.{Null}
use Rattle.hs_base.specs.Samples.{t, one_rule}
use Rattle.hs_client.specs.Calls.{sheet_for}
use Rattle.hs_collect.specs.Collected.{Placed, is_same, pieces_of, IsWhole, AreWholes, CanBeAdded, KeepsRuns}
use Rattle.hs_records.specs.declared.journal.Draw.TheVariants.{Got, Empty}
use Rattle.hs_records.specs.Journals.{PlainJournal}
use Rattle.hs_ledger.specs.declared.ledger.Entry.{Entry}
use Rattle.hs_ledger.specs.Totals.{is_reported}
use Rattle.hs_law_agent.specs.Standings.{Taken}
use Rattle.hs_records.specs.Pages.{PlainPage, first_record, pages_of}
use Rattle.hs_records.specs.Plain.{Point, End, PlainWorkload}
use Rattle.hs_client.specs.Samples.{settings, workload, begin, fire}
use Rattle.hs_client.specs.Sending.{operations_at, place_of}
use Rattle.hs_words.specs.Pages.{Sheet}
use Rattle.hs_law_journal.specs.Following.{NodeRun, followed}
use Rattle.hs_law_journal.specs.Journals.{of_evicted_then_claimed}
use Rattle.hs_law_journal.specs.Lawful.{IsLawful, first_unlawful}
use Rattle.hs_law_journal.specs.Samples.{alone, chunk, trigger, turn, given}
use Rattle.hs_law_journal.specs.Workloads.{evicted_then_claimed}
use Rattle.hs_law_outcome.specs.Origins.{HasItsClients}
use Rattle.hs_law_outcome.specs.Outcomes.{outcome_of}
use Rattle.hs_law_outcome.specs.Records.{EndsItsTraces, all_records}
use Rattle.hs_law_outcome.specs.Reports.{report_of}

-- ---- pages of clients

-- A page is that of its number among the pages of its client, of which the workload knows.
pub record IsClientsPage (W : PlainWorkload) (sheet : Sheet) : Type 0 where
  pub page : PlainPage
  pub node : sheet.header.client.node < W.settings.nodes
  pub number : sheet.header.client.number < W.settings.clients
  pub there : slice_get (pages_of W.settings.size (operations_at W (place_of W.settings.clients sheet.header.client.node sheet.header.client.number))) sheet.header.page ≡ Some page
  pub is : sheet ≡ sheet_for sheet.header.client sheet.header.page page

-- Agents take no page but those of their clients, and so they report no other.
abbrev pub TakenPagesAreOfClients : Type 0
TakenPagesAreOfClients =
    (W : PlainWorkload) (J : PlainJournal) → EndsItsTraces W → AllByRecursion (λ (run : NodeRun). AllByRecursion (λ (chunk : Taken). IsClientsPage W chunk.sheet) run.state.taken) (followed W J).nodes

abbrev pub ReportedPagesAreOfClients : Type 0
ReportedPagesAreOfClients = (W : PlainWorkload) (J : PlainJournal) → EndsItsTraces W → AllByRecursion (IsClientsPage W) (outcome_of W J).reported

-- ---- all pieces of a record

-- Each page of the record's client that has a piece of it is among these.
abbrev pub HasAllItsPages : PlainWorkload → List Sheet → Entry → Type 0
HasAllItsPages W sheets entry =
    (number : ℕ) (page : PlainPage) → slice_get (pages_of W.settings.size (operations_at W (place_of W.settings.clients entry.id.client.node entry.id.client.number))) number ≡ Some page
    → first_record page ≤ entry.id.number → entry.id.number < first_record page + length page.pieces → Contains sheets (sheet_for entry.id.client number page)

-- Of a record that was reported no piece is missing: where a piece of it was lost, it has another fate.
abbrev pub ReportedRecordsHaveAllPages : Type 0
ReportedRecordsHaveAllPages =
    (W : PlainWorkload) (J : PlainJournal) → EndsItsTraces W → HasItsClients W → IsLawful W J
    → AllByRecursion (λ (entry : Entry). is_reported entry.fate ≡ true → HasAllItsPages W (outcome_of W J).reported entry) (outcome_of W J).entries

-- ---- adding the pages

-- Each of these pages has a piece, and they can be added in this order.
pub record CanBeCollected (sheets : List Sheet) : Type 0 where
  pub some : All (λ (sheet : Sheet). 0 < length sheet.pieces) sheets
  pub added : CanBeAdded sheets

abbrev pub ReportedPagesCanBeCollected : Type 0
ReportedPagesCanBeCollected =
    (W : PlainWorkload) (J : PlainJournal) (sheets : List Sheet) → EndsItsTraces W → HasItsClients W → IsLawful W J → length (all_records W) ≤ 2 ^ 32 → KeepsRuns (outcome_of W J).reported sheets
    → CanBeCollected sheets

-- ---- the records

-- whether the record of this id was reported
abbrev pub was_reported : List Entry → RecordId → Bool
was_reported entries id = list_any (λ (entry : Entry). is_same entry.id id && is_reported entry.fate) entries

-- those of these records that were reported
abbrev pub reported_wholes : List Entry → List Placed → List Placed
reported_wholes entries wholes = filter (λ (whole : Placed). was_reported entries whole.id) wholes

-- What is collected of a trace, without the parts of records that were lost, are the records of its report.
abbrev pub CollectedRecordsAreWhole : Type 0
CollectedRecordsAreWhole =
    (W : PlainWorkload) (J : PlainJournal) (sheets : List Sheet) (trace : TraceId) (wholes : List Placed) → EndsItsTraces W → HasItsClients W → IsLawful W J → KeepsRuns (outcome_of W J).reported sheets
    → AreWholes (pieces_of trace sheets) wholes → reported_wholes (outcome_of W J).entries wholes ≡ (report_of W (outcome_of W J).entries trace).records

-- ---- examples

-- A pool of two buffers and three pages: one byte on the first, and a record of 60 bytes on the other two, of which the last finds the
-- pool empty. The pages that have a buffer are reported, one in a turn.
abbrev partly : PlainWorkload
partly = workload (settings 2 4 8 4 16 one_rule) ((begin 1 ∷ Point 1 (5 ∷ []) ∷ Point 2 (replicate 60 7) ∷ End ∷ fire 3 1 1 ∷ []) ∷ [])

abbrev of_partly : PlainJournal
of_partly = alone (Got 0 0 ∷ Got 1 1 ∷ Empty 2 ∷ []) (chunk ∷ chunk ∷ trigger ∷ turn ∷ given 3 ∷ turn ∷ given 4 ∷ []) (0 ∷ [])

partly_is_lawful : first_unlawful partly of_partly ≡ None
partly_is_lawful = refl

abbrev of_one : (number moment : ℕ) → List ℕ → Placed
of_one number moment payload = record { id = record { client = record { node = 0; number = 0 }; number = number }; moment = moment; payload = payload }

two_of_three_pages : map (λ (sheet : Sheet). sheet.header.page) (outcome_of partly of_partly).reported ≡ 0 ∷ 1 ∷ []
two_of_three_pages = refl

pieces_of_two_records : pieces_of (t 1) (outcome_of partly of_partly).reported ≡ of_one 0 1 (5 ∷ []) ∷ of_one 1 2 (replicate 30 7) ∷ []
pieces_of_two_records = refl

-- half of the second record is collected
half_a_record : IsWhole (pieces_of (t 1) (outcome_of partly of_partly).reported) (of_one 1 2 (replicate 30 7))
half_a_record = record { moment = refl; payload = refl }

-- but it was lost, and the report has it as a gap
only_the_first : (was_reported (outcome_of partly of_partly).entries (of_one 0 1 []).id ≡ true) × (was_reported (outcome_of partly of_partly).entries (of_one 1 2 []).id ≡ false)
only_the_first = (refl, refl)

first_alone_is_left : reported_wholes (outcome_of partly of_partly).entries (of_one 0 1 (5 ∷ []) ∷ of_one 1 2 (replicate 30 7) ∷ []) ≡ of_one 0 1 (5 ∷ []) ∷ []
first_alone_is_left = refl

report_of_the_first : (report_of partly (outcome_of partly of_partly).entries (t 1)).records ≡ of_one 0 1 (5 ∷ []) ∷ []
report_of_the_first = refl

gap_of_the_second : map (λ (entry : Entry). entry.fate) (report_of partly (outcome_of partly of_partly).entries (t 1)).gaps ≡ Null 2 ∷ []
gap_of_the_second = refl

-- nothing is collected of a trace that nobody claimed
no_page_of_it : pieces_of (t 2) (outcome_of partly of_partly).reported ≡ []
no_page_of_it = refl

-- nor of a page whose chunk was evicted before its trace was claimed
second_page_alone : map (λ (sheet : Sheet). sheet.header.page) (outcome_of evicted_then_claimed of_evicted_then_claimed).reported ≡ 1 ∷ []
second_page_alone = refl

-- with a third buffer the last page has its turn too, and the record is whole
abbrev wholly : PlainWorkload
wholly = record partly { settings = settings 3 4 8 4 16 one_rule }

abbrev of_wholly : PlainJournal
of_wholly = alone (Got 0 0 ∷ Got 1 1 ∷ Got 2 2 ∷ []) (chunk ∷ chunk ∷ chunk ∷ trigger ∷ turn ∷ given 3 ∷ turn ∷ given 4 ∷ turn ∷ given 5 ∷ []) (0 ∷ [])

wholly_is_lawful : first_unlawful wholly of_wholly ≡ None
wholly_is_lawful = refl

both_are_whole : (report_of wholly (outcome_of wholly of_wholly).entries (t 1)).records
    ≡ of_one 0 1 (5 ∷ []) ∷ of_one 1 2 (replicate 60 7) ∷ []
both_are_whole = refl
