-- What one sampler keeps, against the others. Each record comes once in operation order, so no sampler keeps one twice. If the journal is
-- lawful, a record of a named trace was reported, or is a gap in the report of its trace, or is limited, which means that no node claimed
-- the trace; only one of these holds. None of them holds for a record whose trace nobody named. So Hindsight's records, gaps and limited
-- records together are the records of tail sampling. A ring keeps only records that tail sampling keeps.
use Rattle.std.specs.Prelude.{◌≡◌, ℕ, ◌+◌, ◌≤◌, true, List, [], ◌∷◌, ◌++◌, length, map, sum_by, All, Contains, IsPermutation, if◌then◌else◌, refl}
use Rattle.std.proofs.Common.{lit≤}
use Rattle.std.specs.List.{AllByRecursion, flat_map, range_with_len}
use Rattle.hs_base.specs.declared.ids.TraceId.{TraceId}
use Rattle.hs_base.specs.declared.told.Trigger.{Trigger}
use Rattle.hs_base.specs.Ids.{is_among}
use Rattle.hs_records.specs.Journals.{PlainJournal}
use Rattle.hs_ledger.specs.declared.ledger.Entry.{Entry}
use Rattle.hs_ledger.specs.Totals.{is_reported}
use Rattle.hs_records.specs.Plain.{PlainWorkload}
use Rattle.hs_client.specs.Sending.{Sent, operations_at, sent_triggers}
use Rattle.hs_law_journal.specs.Journals
use Rattle.hs_law_journal.specs.Lawful.{IsLawful}
use Rattle.hs_law_journal.specs.Workloads.{evicted_then_claimed, one_token}
use Rattle.hs_law_outcome.specs.Origins.{HasItsClients}
use Rattle.hs_law_outcome.specs.Outcomes.{outcome_of}
use Rattle.hs_law_outcome.specs.Records.{EndsItsTraces, Named, name_of}
use Rattle.hs_law_outcome.specs.Reports.{Report, reports_of}
use Rattle.hs_compare.specs.Coming.{Coming, SamplerEvent, Comes, Names, names_in, events_in_order, all_comings, named_in}
use Rattle.hs_compare.specs.Lines.{PlainComparison, is_gap, is_limited, comparison_of}
use Rattle.hs_compare.specs.Samplers.{tail_keeps, ring_keeps}

-- Each record that a ring keeps is one that tail keeps.
abbrev pub RingKeepsLess : Type 0
RingKeepsLess = (W : PlainWorkload) (room : ℕ) → All (Contains (tail_keeps W)) (ring_keeps room W)

-- ---- the operation order

-- the record that an event brings
abbrev pub brought_by : SamplerEvent → List Coming
brought_by (Comes coming) = coming ∷ []
brought_by (Names trace) = []

-- what all triggers name, client by client
abbrev pub all_names : PlainWorkload → List TraceId
all_names W =
    flat_map (λ place. flat_map (λ (item : Sent Trigger). names_in item.item) (sent_triggers W.settings.autos (operations_at W place))) (range_with_len 0 (length W.clients))

-- In the operation order each record comes once, and each trigger names its traces once.
pub record HasAllInOrder (W : PlainWorkload) : Type 0 where
  pub records : IsPermutation (all_comings W) (flat_map brought_by (events_in_order W))
  pub names : IsPermutation (all_names W) (named_in W)

abbrev pub TheOrderHasAll : Type 0
TheOrderHasAll = (W : PlainWorkload) → 1 ≤ W.settings.stride → HasAllInOrder W

-- So a ring keeps no record twice: what tail keeps is what the ring keeps, and others.
abbrev pub RingKeepsEachOnce : Type 0
RingKeepsEachOnce = (W : PlainWorkload) (room : ℕ) → 1 ≤ W.settings.stride → (others : List Coming) × IsPermutation (tail_keeps W) (ring_keeps room W ++ others)

-- ---- claims

-- Clients end the traces that they begin, each node has its clients, and a round has an operation at least. Every valid workload keeps this.
pub record CanBeCompared (W : PlainWorkload) : Type 0 where
  pub ends : EndsItsTraces W
  pub clients : HasItsClients W
  pub stride : 1 ≤ W.settings.stride

-- Each trace that some node claimed is a named one.
abbrev pub ClaimedTracesAreNamed : Type 0
ClaimedTracesAreNamed =
    (W : PlainWorkload) (J : PlainJournal) → 1 ≤ W.settings.stride → AllByRecursion (λ (trace : TraceId). is_among (named_in W) trace ≡ true) (outcome_of W J).claimed

-- ---- the entries

-- which record comes
abbrev pub name_of_coming : Coming → Named
name_of_coming coming = record { id = coming.id; trace = coming.trace }

-- The entries stand one for one with the records that come.
abbrev pub EntriesStandByTheRecords : Type 0
EntriesStandByTheRecords = (W : PlainWorkload) (J : PlainJournal) → EndsItsTraces W → IsLawful W J → map name_of_coming (all_comings W) ≡ map name_of (outcome_of W J).entries

-- An entry of a named trace is reported, or in a gap line, or limited, and only one of these. One of another trace is none of them.
abbrev pub IsParted : PlainWorkload → List TraceId → Entry → Type 0
IsParted W claimed entry =
    (if is_reported entry.fate then 1 else 0) + (if is_gap claimed entry then 1 else 0) + (if is_limited (named_in W) claimed entry then 1 else 0)
    ≡ (if is_among (named_in W) entry.trace then 1 else 0)

abbrev pub KeptIsParted : Type 0
KeptIsParted = (W : PlainWorkload) (J : PlainJournal) → CanBeCompared W → IsLawful W J → AllByRecursion (IsParted W (outcome_of W J).claimed) (outcome_of W J).entries

-- ---- the counts

-- what is compared of the outcome of a workload and a journal
abbrev pub compared_by : PlainWorkload → PlainJournal → ℕ → ℕ → PlainComparison
compared_by W J one_in room = let outcome = outcome_of W J in comparison_of W outcome.entries outcome.claimed one_in room

-- The records that are counted as gaps are those in the gap lines of the reports.
abbrev pub GapsAreInGapLines : Type 0
GapsAreInGapLines = (W : PlainWorkload) (J : PlainJournal) (one_in room : ℕ) → (compared_by W J one_in room).gap ≡ sum_by (λ (report : Report). length report.gaps) (reports_of W J)

abbrev pub SumsToTail : PlainComparison → Type 0
SumsToTail c = c.tail.records ≡ c.hindsight.records + c.gap + c.limited

-- Tail keeps as many records as Hindsight keeps, as stand in gap lines, and as are limited.
abbrev pub TailIsTheSum : Type 0
TailIsTheSum = (W : PlainWorkload) (J : PlainJournal) (one_in room : ℕ) → CanBeCompared W → IsLawful W J → SumsToTail (compared_by W J one_in room)

-- ---- examples

-- one record is reported, and the other was evicted before its trace was claimed
can_be_compared : CanBeCompared evicted_then_claimed
can_be_compared = record { ends = record { size = lit≤ tt; ends = ((refl, (refl, (refl, (refl, (refl, (refl, refl)))))), tt) }; clients = refl; stride = lit≤ tt }

abbrev compared : PlainComparison
compared = compared_by evicted_then_claimed Journals.of_evicted_then_claimed 1 1

a_gap_and_a_record : (SumsToTail compared) × (compared.tail.records ≡ 2) × (compared.hindsight.records ≡ 1) × (compared.gap ≡ 1)
a_gap_and_a_record = (refl, refl, refl, refl)

-- of three traces one is limited
two_and_a_limited_one : SumsToTail (compared_by one_token Journals.of_one_token 1 1)
two_and_a_limited_one = refl

three_are_parted : AllByRecursion (IsParted one_token (outcome_of one_token Journals.of_one_token).claimed) (outcome_of one_token Journals.of_one_token).entries
three_are_parted = (refl, (refl, (refl, tt)))
