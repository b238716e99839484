-- Where a fate comes from. Each record of a lawful journal has its fate from one of the pages with its pieces: null with the stamp
-- of that page's draw, where the draw found nothing, and else as the chunk of that page stands with the node's agent. So the cause
-- that a ledger names is in the journal: a stamp, two counts, or a group's trigger, lead and rank.
use Rattle.std.specs.Prelude.{◌≡◌, ℕ, ◌+◌, ◌*◌, ◌<◌, ◌≤◌, length, Some, slice_get, true}
use Rattle.std.specs.List.{AllByRecursion}
use Rattle.hs_base.specs.declared.ids.ClientId.{ClientId}
use Rattle.hs_base.specs.declared.told.Fate.{Fate}
use Rattle.hs_base.specs.declared.told.Fate.TheVariants.{Null}
use Rattle.hs_records.specs.declared.journal.Draw.{Draw}
use Rattle.hs_records.specs.declared.journal.Draw.TheVariants.{Got, Empty}
use Rattle.hs_records.specs.Journals.{PlainJournal}
use Rattle.hs_ledger.specs.declared.ledger.Entry.{Entry}
use Rattle.hs_law_agent.specs.Books.{fate_of}
use Rattle.hs_law_agent.specs.Standings.{Taken}
use Rattle.hs_records.specs.Pages.{PlainPage, first_record, pages_of}
use Rattle.hs_records.specs.Plain.{PlainWorkload}
use Rattle.hs_client.specs.Drawn.{DrawnPage, has_buffer}
use Rattle.hs_client.specs.Sending.{operations_at, draws_at, place_of, sheet_of}
use Rattle.hs_words.specs.Pages.{Sheet}
use Rattle.hs_law_journal.specs.Following.{NodeRun, Run, followed}
use Rattle.hs_law_journal.specs.Lawful.{IsLawful}
use Rattle.hs_law_journal.specs.Pooled.{page_of}
use Rattle.hs_law_outcome.specs.Outcomes.{outcome_of}
use Rattle.hs_law_outcome.specs.Records.{EndsItsTraces}

-- each node has its clients, as in every valid workload
abbrev pub HasItsClients : PlainWorkload → Type 0
HasItsClients W = length W.clients ≡ W.settings.nodes * W.settings.clients

-- The agent of the client's node took the chunk of this page, and with it the pieces have this fate.
pub record WasTaken (run : Run) (client : ClientId) (page : ℕ) (fate : Fate) : Type 0 where
  pub node : NodeRun
  pub place : ℕ
  pub chunk : Taken
  pub here : slice_get run.nodes client.node ≡ Some node
  pub taken : slice_get node.state.taken place ≡ Some chunk
  pub client_is : chunk.sheet.header.client ≡ client
  pub page_is : chunk.sheet.header.page ≡ page
  pub fate_is : fate ≡ fate_of chunk.standing

-- a page with this draw gives its pieces this fate
abbrev pub Gives : Run → ClientId → ℕ → Draw → Fate → Type 0
Gives run client page (Empty stamp) fate = fate ≡ Null stamp
Gives run client page (Got buffer stamp) fate = WasTaken run client page fate

-- A page of the record's client has a piece of it, and gives it its fate.
pub record HasItsCause (W : PlainWorkload) (J : PlainJournal) (entry : Entry) : Type 0 where
  pub page : ℕ
  pub plain : PlainPage
  pub draw : Draw
  pub page_there : slice_get (pages_of W.settings.size (operations_at W (place_of W.settings.clients entry.id.client.node entry.id.client.number))) page ≡ Some plain
  pub draw_there : slice_get (draws_at J (place_of W.settings.clients entry.id.client.node entry.id.client.number)) page ≡ Some draw
  pub first : first_record plain ≤ entry.id.number
  pub last : entry.id.number < first_record plain + length plain.pieces
  pub gives : Gives (followed W J) entry.id.client page draw entry.fate

abbrev pub EachFateHasItsCause : Type 0
EachFateHasItsCause = (W : PlainWorkload) (J : PlainJournal) → EndsItsTraces W → HasItsClients W → IsLawful W J → AllByRecursion (HasItsCause W J) (outcome_of W J).entries

-- ---- what agents have

-- A sheet is that of a page of the node's clients, which stands at the place that the sheet names, and has a buffer.
pub record IsOfDrawnPage (run : NodeRun) (sheet : Sheet) : Type 0 where
  pub page : DrawnPage
  pub there : page_of run sheet ≡ Some page
  pub got : has_buffer page.draw ≡ true
  pub is : sheet_of page ≡ sheet

-- An agent has no chunk but those of pages that its clients drew.
abbrev pub TakenPagesWereDrawn : Type 0
TakenPagesWereDrawn =
    (W : PlainWorkload) (J : PlainJournal) → AllByRecursion (λ (run : NodeRun). AllByRecursion (λ (chunk : Taken). IsOfDrawnPage run chunk.sheet) run.state.taken) (followed W J).nodes
