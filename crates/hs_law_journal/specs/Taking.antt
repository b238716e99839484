-- Which chunks an agent has taken. Those of each client are the first that it sent, in the order in which it sent them. A client sends
-- its pages in the order of their numbers, so among the chunks that an agent took each client's pages rise, and no page is there twice.
use Rattle.std.specs.Prelude.{◌≡◌, ℕ, Bool, ◌==◌, List, [], ◌∷◌, map, filter, take, slice_get, refl}
use Rattle.std.specs.List.{AllByRecursion}
use Rattle.std.specs.Option.{option_map_or}
use Rattle.hs_records.specs.Journals.{PlainJournal}
use Rattle.hs_law_agent.specs.Laws.{PagesRise, sheets_of}
use Rattle.hs_records.specs.Plain.{PlainWorkload}
use Rattle.hs_client.specs.Sending.{ClientSends}
use Rattle.hs_words.specs.Pages.{Sheet}
use Rattle.hs_law_journal.specs.Following.{Chunks, taken, NodeRun, Run, run_start, followed}
use Rattle.hs_law_journal.specs.Journals.{of_three_points, of_three_traces}
use Rattle.hs_law_journal.specs.Orders.{Leads}
use Rattle.hs_law_journal.specs.Workloads.{three_points, three_traces}

-- whether a page is of the client with this number at its node
abbrev pub is_by : ℕ → Sheet → Bool
is_by client sheet = sheet.header.client.number == client

-- the pages of all chunks that a client of a node sends, in order
abbrev pub sheets_sent : NodeRun → ℕ → List Sheet
sheets_sent run client = option_map_or (λ (sends : ClientSends). map (λ item. item.item) sends.chunks) (slice_get run.sends client) []

-- Of each client the agent has taken the first chunks that it sent, as many as its log has steps that took one.
abbrev pub TakesInOrder : NodeRun → Type 0
TakesInOrder run = (client : ℕ) → filter (is_by client) (sheets_of run.state.taken) ≡ take (taken (Chunks client) run.state.log) (sheets_sent run client)

abbrev pub ChunksAreTakenInOrder : Type 0
ChunksAreTakenInOrder = (W : PlainWorkload) (J : PlainJournal) (run : Run) → Leads W.settings (run_start W J) run → AllByRecursion TakesInOrder run.nodes

abbrev pub TakenPagesRise : Type 0
TakenPagesRise = (W : PlainWorkload) (J : PlainJournal) (run : Run) → Leads W.settings (run_start W J) run → AllByRecursion (λ (node : NodeRun). PagesRise (sheets_of node.state.taken)) run.nodes

-- ---- examples

abbrev pages_taken : NodeRun → List ℕ
pages_taken run = map (λ (sheet : Sheet). sheet.header.page) (sheets_of run.state.taken)

abbrev pages_sent : NodeRun → List ℕ
pages_sent run = map (λ (sheet : Sheet). sheet.header.page) (sheets_sent run 0)

-- the second page of the client had no buffer, so one chunk was sent and taken
one_of_two : (map pages_taken (followed three_points of_three_points).nodes ≡ (0 ∷ []) ∷ []) × (map pages_sent (followed three_points of_three_points).nodes ≡ (0 ∷ []) ∷ [])
one_of_two = (refl, refl)

-- the pages stay in the order of their arrival, evicted or not
all_three : (map pages_taken (followed three_traces of_three_traces).nodes ≡ (0 ∷ 1 ∷ 2 ∷ []) ∷ []) × (map pages_sent (followed three_traces of_three_traces).nodes ≡ (0 ∷ 1 ∷ 2 ∷ []) ∷ [])
all_three = (refl, refl)

-- a node has no other client than its own
nobody_else : map (λ (run : NodeRun). sheets_sent run 1) (followed three_points of_three_points).nodes ≡ [] ∷ []
nobody_else = refl
