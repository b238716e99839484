-- What a workload and a journal come to. The books of the clients are their draws and pages, and those of the agents what the
-- journal leads to when it is followed. Each record has one entry with its fate: null where a page of it had no buffer, and else
-- as its chunks stand at the end. Claimed traces rise. The reported pages stand node by node, as they were reported.
use Rattle.std.specs.Prelude.{ℕ, ◌/◌, ◌%◌, ◌==◌, nat_lt, List, [], ◌∷◌, length, map, filter_map, slice_get, option_map, if◌then◌else◌}
use Rattle.std.specs.List.{flat_map, range_with_len}
use Rattle.hs_base.specs.declared.ids.ClientId.{ClientId}
use Rattle.hs_base.specs.declared.ids.TraceId.{TraceId}
use Rattle.hs_client.specs.Calls.{note_of}
use Rattle.hs_records.specs.Books.{PlainClientBook, PlainAgentBook}
use Rattle.hs_records.specs.Journals.{PlainJournal}
use Rattle.hs_ledger.specs.declared.ledger.Entry.{Entry}
use Rattle.hs_ledger.specs.Fates.{entries_of}
use Rattle.hs_law_agent.specs.Books.{book_of}
use Rattle.hs_law_agent.specs.Standings.{Taken}
use Rattle.hs_law_agent.specs.State.{ClaimedTrace}
use Rattle.hs_records.specs.Plain.{PlainWorkload}
use Rattle.hs_records.specs.Pages.{pages_of}
use Rattle.hs_client.specs.Sending.{operations_at, draws_at}
use Rattle.hs_words.specs.Pages.{Sheet}
use Rattle.hs_law_journal.specs.Following.{NodeRun, Run, followed}

-- the client at a place in the order of node and number, where each node has so many
abbrev pub client_at : ℕ → ℕ → ClientId
client_at each place = record { node = place / each; number = place % each }

-- the book of the client at a place
abbrev pub client_book : PlainWorkload → PlainJournal → ℕ → PlainClientBook
client_book W J place =
    record {
      client = client_at W.settings.clients place;
      draws = draws_at J place;
      pages = map note_of (pages_of W.settings.size (operations_at W place));
    }

abbrev pub client_books : PlainWorkload → PlainJournal → List PlainClientBook
client_books W J = map (client_book W J) (range_with_len 0 (length W.clients))

abbrev pub agent_books : Run → List PlainAgentBook
agent_books run = map (λ (node : NodeRun). book_of node.node node.state) run.nodes

-- a trace in its place among rising ones, each of which stands once
abbrev pub put_trace : TraceId → List TraceId → List TraceId
put_trace trace [] = trace ∷ []
put_trace trace (other ∷ traces) =
    if nat_lt trace.0 other.0 then trace ∷ other ∷ traces else (if trace.0 == other.0 then other ∷ traces else other ∷ put_trace trace traces)

-- each of these traces once, rising
abbrev pub rising_traces : List TraceId → List TraceId
rising_traces [] = []
rising_traces (trace ∷ traces) = put_trace trace (rising_traces traces)

-- the traces that were claimed at a node
abbrev pub claimed_at : NodeRun → List TraceId
claimed_at node = map (λ (claim : ClaimedTrace). claim.trace) node.state.claims

-- the pages that a node reported, in that order
abbrev pub reported_at : NodeRun → List Sheet
reported_at node = filter_map (λ place. option_map (λ (chunk : Taken). chunk.sheet) (slice_get node.state.taken place)) node.state.reported

-- The outcome: the version in which traces are written, the journal, an entry for each record, the claimed traces, and the pages
-- that were reported.
pub record PlainOutcome : Type 0 where
  pub version : ℕ
  pub journal : PlainJournal
  pub entries : List Entry
  pub claimed : List TraceId
  pub reported : List Sheet

abbrev pub outcome_by : PlainWorkload → PlainJournal → Run → PlainOutcome
outcome_by W J run =
    record {
      version = W.version;
      journal = J;
      entries = entries_of (client_books W J) (agent_books run);
      claimed = rising_traces (flat_map claimed_at run.nodes);
      reported = flat_map reported_at run.nodes;
    }

abbrev pub outcome_of : PlainWorkload → PlainJournal → PlainOutcome
outcome_of W J = outcome_by W J (followed W J)
