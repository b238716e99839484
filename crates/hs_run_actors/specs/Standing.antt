-- Where a client stands between rounds, what a round does to it, and what it has sent by then.
use Rattle.std.specs.Prelude.{◌≡◌, ◌↔◌, ℕ, ◌+◌, ◌^◌, ◌<◌, ◌≤◌, Bool, true, IsTrue, List, [], ◌++◌, length, map, take, drop, slice_get, Option, Some}
use Rattle.std.specs.List.{AllByRecursion}
use Rattle.hs_base.specs.declared.ids.ClientId.{ClientId}
use Rattle.hs_client.specs.Calls.{note_of}
use Rattle.hs_records.specs.Books.{PlainClientBook}
use Rattle.hs_records.specs.declared.journal.Draw.{Draw}
use Rattle.hs_records.specs.declared.journal.Draw.TheVariants.{Got}
use Rattle.hs_link.specs.Contents.{Outgoing, sent, SeemsFull}
use Rattle.hs_live.specs.Keys.{Key}
use Rattle.hs_live.specs.Live.{PlainClient, GoesOn}
use Rattle.hs_live.specs.Writing.{Made, DrawsOn, IsDrawn, draws_by}
use Rattle.hs_live.specs.Done.{HasDone}
use Rattle.hs_client.specs.Playable.{IsPlayable}
use Rattle.hs_records.specs.Pages.{pages_of}
use Rattle.hs_records.specs.Plain.{Operation, PlainSettings}
use Rattle.hs_ring.specs.Parts.{Leased, Drawing, Giving}
use Rattle.hs_client.specs.Draws.{count_started}
use Rattle.hs_client.specs.OneMore.{items_of}
use Rattle.hs_client.specs.Sending.{Sent, sends_of, sent_within}
use Rattle.hs_client.specs.SoFar.{done_behind}
use Rattle.hs_words.specs.Buffers.{Buffer}
use Rattle.hs_words.specs.Pages.{Sheet}
use Rattle.hs_records.specs.Validity.{client_pieces}
use Rattle.hs_run_actors.specs.ClientActors.{PlainClientActor}
use Rattle.hs_run_actors.specs.Counting.{crumbs_of, triggers_of}

-- ---- between rounds

-- what a client is made with; its drawer has drawn nothing
abbrev pub made_for : PlainSettings → ClientId → List Operation → Made
made_for settings client ops = record { client = client; size = settings.size; calls = client_pieces settings.size ops; autos = settings.autos; answers = []; keeps = true; renewed = 0; earlier = []; before = [] }

-- the key of the three links of a client of this giver's pool
abbrev pub key_for : PlainSettings → ClientId → Giving → Key
key_for settings client giver = record { client = client; pool = giver.pool; size = giver.size; nodes = settings.nodes; rules = settings.triggers }

-- The client has what these operations take: calls, draws, and room on each link.
pub record HasEnough (size : ℕ) (ops : List Operation) (client : PlainClient) : Type 0 where
  pub calls : client.core.counted + client_pieces size ops ≤ client.core.calls
  pub draws : client_pieces size ops ≤ client.drawer.left
  pub chunks : length (sent client.chunks) + client_pieces size ops ≤ client.chunks.room
  pub crumbs : length (sent client.crumbs) + crumbs_of ops ≤ client.crumbs.room
  pub triggers : length (sent client.triggers) + triggers_of ops ≤ client.triggers.room
  pub rooms : client.chunks.room + client.crumbs.room + client.triggers.room < 2 ^ 32

-- The client is this one, and the keys of its links name the settings' nodes and rules.
pub record IsClientOf (settings : PlainSettings) (client : ClientId) (live : PlainClient) : Type 0 where
  pub owner : live.core.client ≡ client
  pub size : live.core.size ≡ settings.size
  pub nodes : live.crumbs.key.nodes ≡ settings.nodes
  pub rules : live.triggers.key.rules ≡ settings.triggers

-- The first operations of the client are done, as many as it counts, and it has enough for the others. Its drawer drew, and did
-- nothing else.
pub record ClientActorIsAt (settings : PlainSettings) (client : ClientId) (ops : List Operation) (caller : PlainClientActor) : Type 0 where
  pub playable : IsPlayable settings ops
  pub within : caller.done ≤ length ops
  pub inside : HasDone (made_for settings client ops) (take caller.done ops) caller.client
  pub is_of : IsClientOf settings client caller.client
  pub enough : HasEnough settings.size (drop caller.done ops) caller.client
  pub answered : AllByRecursion IsDrawn caller.client.drawer.answers
  pub few : caller.client.triggers.room ≤ client_pieces settings.size ops

-- ---- a round

-- The sender is the same end and went on. If anything waits in its outbox, as far as it heard each entry of the ring was in use.
pub record IsFlushed {T F : Type 0} (s t : Outgoing T F) : Type 0 where
  pub goes : GoesOn s t
  pub full : 0 < length t.outbox → SeemsFull t

-- The next operations are done, at most as many as the stride. The ends are the same, and know no less.
pub record Goes (settings : PlainSettings) (ops : List Operation) (old new : PlainClientActor) : Type 0 where
  pub done : new.done ≡ done_behind settings.stride old.done ops
  pub at : (client : ClientId) → ClientActorIsAt settings client ops old → ClientActorIsAt settings client ops new
  pub draws : DrawsOn old.client.drawer new.client.drawer
  pub chunks : IsFlushed old.client.chunks new.client.chunks
  pub crumbs : IsFlushed old.client.crumbs new.client.crumbs
  pub triggers : IsFlushed old.client.triggers new.client.triggers

-- whether operations are left
abbrev pub TellsLeft : List Operation → PlainClientActor → Bool → Type 0
TellsLeft ops caller left = IsTrue left ↔ (caller.done < length ops)

-- ---- what was sent

-- the pages in chunks, and those of items
abbrev pub pages_in : List (Buffer Leased) → List (Option Sheet)
pages_in chunks = map (λ (chunk : Buffer Leased). chunk.chunk.page) chunks

abbrev pub sheets_in : List (Sent Sheet) → List (Option Sheet)
sheets_in items = map (λ (sheet : Sheet). Some sheet) (items_of items)

-- The chunk has a page of the client in it, and is the buffer that this page drew, with the lease of that draw.
pub record IsLeasedTo (client : ClientId) (draws : List Draw) (buffer : Buffer Leased) : Type 0 where
  pub sheet : Sheet
  pub page : buffer.chunk.page ≡ Some sheet
  pub owner : sheet.header.client ≡ client
  pub draw : slice_get draws sheet.header.page ≡ Some (Got buffer.chunk.number buffer.lease.draw)

-- One draw is noted for each page that the operations so far start, as the drawer was answered. The three links were given what
-- these operations send, whatever is drawn later.
pub record HasSentSoFar (settings : PlainSettings) (client : ClientId) (ops : List Operation) (caller : PlainClientActor) : Type 0 where
  pub draws : caller.client.core.draws ≡ draws_by caller.client.drawer.answers
  pub each : length caller.client.core.draws ≡ count_started settings.size ops caller.done
  pub chunks : (more : List Draw)
      → pages_in (sent caller.client.chunks) ≡ sheets_in (sent_within caller.done (sends_of settings client ops (caller.client.core.draws ++ more)).chunks)
  pub leases : AllByRecursion (IsLeasedTo client caller.client.core.draws) (sent caller.client.chunks)
  pub crumbs : sent caller.client.crumbs ≡ items_of (sent_within caller.done (sends_of settings client ops caller.client.core.draws).crumbs)
  pub triggers : sent caller.client.triggers ≡ items_of (sent_within caller.done (sends_of settings client ops caller.client.core.draws).triggers)
  pub few : length (sent caller.client.triggers) ≤ client_pieces settings.size ops

-- The draws are one for each page, and the three links were given all that the client sends at them.
pub record HasSentAll (settings : PlainSettings) (client : ClientId) (ops : List Operation) (caller : PlainClientActor) : Type 0 where
  pub each : length caller.client.core.draws ≡ length (pages_of settings.size ops)
  pub chunks : pages_in (sent caller.client.chunks) ≡ sheets_in (sends_of settings client ops caller.client.core.draws).chunks
  pub crumbs : sent caller.client.crumbs ≡ items_of (sends_of settings client ops caller.client.core.draws).crumbs
  pub triggers : sent caller.client.triggers ≡ items_of (sends_of settings client ops caller.client.core.draws).triggers

-- ---- the end

-- All operations of some client are done.
pub record IsDone (caller : PlainClientActor) : Type 0 where
  pub settings : PlainSettings
  pub client : ClientId
  pub ops : List Operation
  pub at : ClientActorIsAt settings client ops caller
  pub all : caller.done ≡ length ops

-- The book is that of the draws and of the pages of all operations.
abbrev pub Notes : PlainClientActor → PlainClientBook → Type 0
Notes caller book =
    (settings : PlainSettings) (client : ClientId) (ops : List Operation) → ClientActorIsAt settings client ops caller → caller.done ≡ length ops
    → book ≡ record { client = client; draws = caller.client.core.draws; pages = map note_of (pages_of settings.size ops) }

-- ---- the beginning

-- The drawer is that of a new pool of this giver with chunks of the settings' size, and may draw for all pages of the operations.
pub record IsDrawerFor (settings : PlainSettings) (ops : List Operation) (giver : Giving) (drawer : Drawing) : Type 0 where
  pub pool : drawer.pool ≡ giver.pool
  pub size : drawer.size ≡ settings.size
  pub giver_size : giver.size ≡ settings.size
  pub fresh : drawer.answers ≡ []
  pub left : client_pieces settings.size ops ≤ drawer.left
