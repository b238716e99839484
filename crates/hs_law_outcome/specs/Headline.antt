-- What whoever reads an outcome may rely on, in one place. The program prints the outcome of a valid workload and of a journal that is
-- lawful for it; all that is said here holds of any two such. Each sentence is in words that are defined where its subject is: of the
-- ledger and the reports in `hs_law_outcome`, of what agents keep in `hs_law_agent`, of who is asked in `hs_coord`.
use Rattle.std.specs.Prelude.{◌≡◌, ℕ, Bool, true, false, ◌==◌, ◌&&◌, List, [], ◌∷◌, ◌++◌, length, map, count_by, if◌then◌else◌, All, refl}
use Rattle.std.specs.List.{AllByRecursion, list_any, range_with_len}
use Rattle.hs_base.specs.declared.ids.GroupId.{GroupId}
use Rattle.hs_base.specs.declared.ids.TraceId.{TraceId}
use Rattle.hs_base.specs.Ids.{same_trace}
use Rattle.hs_base.specs.Samples.{golden, twice}
use Rattle.hs_collect.specs.Collected.{Placed, pieces_of, AreWholes, KeepsRuns}
use Rattle.hs_coord.specs.Following.{Messages, is_of, is_asked, is_answer_from, is_answered, has_ask}
use Rattle.hs_records.specs.Books.{PlainAgentBook}
use Rattle.hs_records.specs.Journals.{PlainJournal}
use Rattle.hs_ledger.specs.Books.{HaveStandings, IsOfGotPage}
use Rattle.hs_ledger.specs.declared.ledger.Entry.{Entry}
use Rattle.hs_ledger.specs.Totals.{is_reported, totals_of, parts_of}
use Rattle.hs_law_agent.specs.Laws.{AllWereOver, AreRising}
use Rattle.hs_law_agent.specs.State.{is_claimed}
use Rattle.hs_law_outcome.specs.Speaking.{IsLeastClosed}
use Rattle.hs_records.specs.Plain.{PlainWorkload}
use Rattle.hs_words.specs.Pages.{Sheet}
use Rattle.hs_words.specs.PoolHistory.{PoolEvent, Got, is_got, is_given, IsPoolHistory}
use Rattle.hs_records.specs.Validity.{IsValid}
use Rattle.hs_law_journal.specs.Following.{NodeRun, log_at, followed}
use Rattle.hs_law_journal.specs.Journals.{of_short_of_pins, of_three_traces}
use Rattle.hs_law_journal.specs.Lawful.{IsLawful}
use Rattle.hs_law_journal.specs.Pooled.{pool_history}
use Rattle.hs_law_journal.specs.Workloads.{short_of_pins, three_traces}
use Rattle.hs_law_outcome.specs.Causes.{KeepsItsModel, GaveWhatWasLetGo, KeepsItsClaims}
use Rattle.hs_law_outcome.specs.ClientBooks.{ClientBooksFit}
use Rattle.hs_law_outcome.specs.CollectedReports.{HasAllItsPages, IsClientsPage, reported_wholes}
use Rattle.hs_law_outcome.specs.Nulls.{NullsFoundNothing}
use Rattle.hs_law_outcome.specs.Origins.{HasItsCause}
use Rattle.hs_law_outcome.specs.Outcomes.{client_books, agent_books, outcome_of}
use Rattle.hs_law_outcome.specs.Records.{ShowsItsTrace, Named, name_of, all_records}
use Rattle.hs_law_outcome.specs.Reports.{Report, report_of, reports_of}
use Rattle.hs_law_outcome.specs.Abandonment.{GivesWayInOrder}
use Rattle.hs_law_outcome.specs.Asking.{asks_for}

-- ---- the ledger

pub record LedgerHolds (W : PlainWorkload) (J : PlainJournal) : Type 0 where
  -- Every record of the workload stands in the ledger once, with one fate: client by client, in the order in which it was written.
  pub entries : map name_of (outcome_of W J).entries ≡ all_records W
  -- The five totals add up to the records.
  pub totals : parts_of (totals_of (outcome_of W J).entries) ≡ length (all_records W)
  -- Each fate has its cause in the journal. A page with a piece of the record gives it: null with the stamp of the page's draw, and
  -- else as the chunk of the page stands with the node's agent in the end.
  pub causes : AllByRecursion (HasItsCause W J) (outcome_of W J).entries
  -- A draw found nothing only where no buffer waited, at its stamp in the one history of the node's pool.
  pub nulls : AllByRecursion (NullsFoundNothing W) (followed W J).nodes

-- ---- reports

-- whether a node claimed the trace, and whether it has a record
abbrev pub is_claimed_in : List NodeRun → TraceId → Bool
is_claimed_in nodes trace = list_any (λ (run : NodeRun). is_claimed run.state.claims trace) nodes

abbrev pub has_record : PlainWorkload → TraceId → Bool
has_record W trace = list_any (λ (r : Named). r.trace.0 == trace.0) (all_records W)

pub record ReportsHold (W : PlainWorkload) (J : PlainJournal) : Type 0 where
  -- A trace has a report where some node claimed it and it has a record, and else none. They come by rising trace.
  pub traces : (trace : TraceId) → list_any (λ (report : Report). same_trace trace report.trace) (reports_of W J) ≡ (is_claimed_in (followed W J).nodes trace && has_record W trace)
  pub rising : AreRising (map (λ (report : Report). report.trace.0) (reports_of W J))
  -- A report has every record of its trace, of all clients, in order: whole, or named by a gap line with the fate that it had instead.
  pub reports : AllByRecursion (ShowsItsTrace W) (reports_of W J)
  -- Of a record that was reported no piece is missing: each page with a piece of it was reported.
  pub pages : AllByRecursion (λ (entry : Entry). is_reported entry.fate ≡ true → HasAllItsPages W (outcome_of W J).reported entry) (outcome_of W J).entries
  -- Each page that was reported is whole, as its client filled it.
  pub sheets : AllByRecursion (IsClientsPage W) (outcome_of W J).reported
  -- Whoever collects these pages, in any order that keeps each client's own, has the records of each report, beside parts of records
  -- of which another piece was lost.
  pub collected : (sheets : List Sheet) (trace : TraceId) (wholes : List Placed) → KeepsRuns (outcome_of W J).reported sheets → AreWholes (pieces_of trace sheets) wholes
      → reported_wholes (outcome_of W J).entries wholes ≡ (report_of W (outcome_of W J).entries trace).records

-- ---- what is kept, and what goes

pub record AgentsHold (W : PlainWorkload) (J : PlainJournal) : Type 0 where
  -- An agent keeps within its three limits. A trace is claimed once at a node, and all its chunks there stand for the group that did.
  pub kept : AllByRecursion (KeepsItsModel W.settings) (followed W J).nodes
  -- A chunk was evicted only where more chunks or more traces were indexed than may stay, by the two counts that its fate names.
  pub evicted : AllByRecursion (λ (run : NodeRun). AllWereOver W.settings run.state.taken) (followed W J).nodes
  -- Nothing that a trigger claimed is evicted behind the claim.
  pub claimed : AllByRecursion (KeepsItsClaims W.settings) (followed W J).nodes
  -- Only while more is pinned than may be a group is abandoned: of the trigger id that has most pinned, the one of least priority, with
  -- all that is pinned for it. So it went, event by event, and each abandoned chunk is of a group that was chosen so.
  pub abandoned : AllByRecursion (GivesWayInOrder W.settings) (followed W J).nodes

-- ---- who is asked

pub record AskingHolds (heard : Messages) : Type 0 where
  -- The nodes asked for a group are the least set that has the node that admitted it and follows the crumbs from node to node.
  pub asked : (group : GroupId) → list_any (is_of group) heard ≡ true → IsLeastClosed group heard (is_asked group heard)
  -- Each of them but the first is sent one ask, and no other node is sent any.
  pub once : (group : GroupId) (node : ℕ) → asks_for group node heard ≡ (if has_ask group heard node then 1 else 0)
  -- An ask was answered exactly where its node told an Answer.
  pub answered : (group : GroupId) (node : ℕ) → is_answered group heard node ≡ list_any (is_answer_from group node) heard

-- ---- buffers

-- A buffer that a client gets was given back as often as it was got before: no second writer has it.
abbrev pub HaveOneWriter : List PoolEvent → Type 0
HaveOneWriter events = (buffer : ℕ) (earlier later : List PoolEvent) → events ≡ earlier ++ Got buffer ∷ later → count_by (is_got buffer) earlier ≡ count_by (is_given buffer) earlier

pub record BuffersHold (W : PlainWorkload) (J : PlainJournal) : Type 0 where
  -- The draws and gives of a node are one history of its pool, in the order of their stamps.
  pub history : AllByRecursion (λ (run : NodeRun). IsPoolHistory W.settings.buffers (pool_history run)) (followed W J).nodes
  -- In it no two clients have one buffer at a time, and none has what the agent still has.
  pub writers : AllByRecursion (λ (run : NodeRun). HaveOneWriter (pool_history run)) (followed W J).nodes
  -- A buffer is given back only after its chunk was evicted, abandoned or reported, and once for each chunk.
  pub given : AllByRecursion (λ (run : NodeRun). GaveWhatWasLetGo run.state) (followed W J).nodes

-- ---- books

-- What an agent did is what its log in the journal says, all of it.
abbrev pub DidItsLog : PlainJournal → NodeRun → Type 0
DidItsLog J run = run.state.log ≡ log_at J run.node

pub record BooksHold (W : PlainWorkload) (J : PlainJournal) : Type 0 where
  -- There is an agent for each node, and it did what its log says.
  pub nodes : map (λ (run : NodeRun). run.node) (followed W J).nodes ≡ range_with_len 0 W.settings.nodes
  pub logs : AllByRecursion (DidItsLog J) (followed W J).nodes
  -- The clients' books come in order, with a draw of the journal for each page, and their pages have all records without a gap.
  pub clients : ClientBooksFit W J
  -- Each page that got a buffer has one standing at its node in the end, so none is lost on the way to its agent.
  pub standing : All (HaveStandings (agent_books (followed W J))) (client_books W J)
  -- And an agent has no other chunk.
  pub got : All (λ (book : PlainAgentBook). All (IsOfGotPage (client_books W J) book.node.0) book.standings) (agent_books (followed W J))

-- ---- all together

pub record Headline (W : PlainWorkload) (J : PlainJournal) : Type 0 where
  -- each record has one fate, with its cause
  pub ledger : LedgerHolds W J
  -- each report is whole, or says what is missing
  pub reports : ReportsHold W J
  -- nothing that was asked for makes room, and what gives way is the least
  pub agents : AgentsHold W J
  -- exactly the nodes are asked that crumbs reach
  pub asking : AskingHolds (followed W J).heard
  -- no buffer is in two hands
  pub buffers : BuffersHold W J
  -- and nothing is lost between clients and agents
  pub books : BooksHold W J

abbrev pub HeadlineHolds : Type 0
HeadlineHolds = (W : PlainWorkload) (J : PlainJournal) → IsValid W → IsLawful W J → Headline W J

-- ---- examples

-- all three traces were claimed, and the one that was abandoned has a report too; they go by trace
three_reports : map (λ (report : Report). report.trace.0) (reports_of short_of_pins of_short_of_pins) ≡ 0 ∷ twice ∷ golden ∷ []
three_reports = refl

claimed_with_a_record : (is_claimed_in (followed short_of_pins of_short_of_pins).nodes (record { 0 = twice }) ≡ true) × (has_record short_of_pins (record { 0 = twice }) ≡ true)
claimed_with_a_record = (refl, refl)

-- without a trigger nothing is claimed, and there is no report
records_alone : (is_claimed_in (followed three_traces of_three_traces).nodes (record { 0 = 1 }) ≡ false) × (has_record three_traces (record { 0 = 1 }) ≡ true) × (reports_of three_traces of_three_traces ≡ [])
records_alone = (refl, refl, refl)
