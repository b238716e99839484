-- Where a client is: how many of its operations are done, at which draws, and how much of what these sent the agent took. All
-- else that they sent waits in the client's queues, in order.
use Rattle.std.specs.Prelude.{◌≡◌, ◌↔◌, ℕ, ◌+◌, ◌-◌, ◌<◌, ◌≤◌, nat_lt, Bool, IsTrue, List, [], ◌∷◌, ◌++◌, length, map, take, drop, filter, slice_get, Option, Some, MatchOption}
use Rattle.std.specs.List.{flat_map}
use Rattle.hs_base.specs.declared.ids.ClientId.{ClientId}
use Rattle.hs_base.specs.declared.settings.AutoRule.{AutoRule}
use Rattle.hs_base.specs.declared.limits.TheConstants.{MAX_OPERATIONS}
use Rattle.hs_base.specs.declared.told.Crumb.{Crumb}
use Rattle.hs_base.specs.declared.told.Trigger.{Trigger}
use Rattle.hs_client.specs.Calls.{note_of}
use Rattle.hs_records.specs.Books.{PlainClientBook}
use Rattle.hs_records.specs.declared.journal.Draw.{Draw}
use Rattle.hs_records.specs.declared.journal.Draw.TheVariants as draws
use Rattle.hs_pool.specs.Pool.{Pool, IsAfter, HasSize}
use Rattle.hs_records.specs.Plain.{Operation, PlainSettings}
use Rattle.hs_records.specs.Pages.{pages_of}
use Rattle.hs_client.specs.Draws.{draws_behind, event_drawn, count_started}
use Rattle.hs_client.specs.Drawn.{DrawnPage}
use Rattle.hs_client.specs.OneMore.{items_of}
use Rattle.hs_client.specs.Sending.{Sent, ClientSends, sends_of, sent_within, sheet_of}
use Rattle.hs_client.specs.SoFar.{done_behind}
use Rattle.hs_words.specs.Chunks.{Contents, with_page, clear_chunk}
use Rattle.hs_words.specs.Pages.{Sheet}
use Rattle.hs_words.specs.PoolHistory.{PoolEvent}
use Rattle.hs_records.specs.Validity.{client_pieces}
use Rattle.hs_replay_client.specs.ReplayClients.{PlainReplayClient, Unleased}
use Rattle.hs_replay_client.specs.Wells.{Way, IsReadyFor, DrawsAll}
use Rattle.hs_replay_client.specs.Writing.{Made}
use Rattle.hs_replay_client.specs.Doing.{Gone, HasDone}
use Rattle.hs_client.specs.Playable.{IsPlayable}

-- ---- what was sent

-- the page of this draw in the buffer that it got
abbrev pub chunk_by : ℕ → Sheet → Draw → List Unleased
chunk_by size sheet (draws.Got buffer stamp) = record { chunk = with_page (clear_chunk size buffer) (Some sheet); lease = tt } ∷ []
chunk_by size sheet (draws.Empty stamp) = []

-- the chunk of a page, if it has one
abbrev pub chunk_of : ℕ → DrawnPage → List Unleased
chunk_of size page = chunk_by size (sheet_of page) page.draw

-- the chunks that the first so many operations send
abbrev pub chunks_within : (size operations : ℕ) → List DrawnPage → List Unleased
chunks_within size operations drawn = flat_map (chunk_of size) (filter (λ (page : DrawnPage). nat_lt page.sent operations) drawn)

-- Of what was sent all but the first so many items wait.
abbrev pub Waits : {A : Type 0} → ℕ → List A → List A → Type 0
Waits taken sent waiting = (taken ≤ length sent) × (waiting ≡ drop taken sent)

-- what a client is made with
abbrev pub made_for : PlainSettings → ClientId → List Operation → Made
made_for settings client ops = record { client = client; size = settings.size; calls = client_pieces settings.size ops; autos = settings.autos }

-- so many chunks, crumbs and triggers of those that the first so many operations sent
abbrev pub gone_of : ℕ → ClientSends → (done k l m : ℕ) → Gone
gone_of size sends done k l m =
    record {
      chunks = take k (chunks_within size done sends.drawn);
      crumbs = take l (items_of (sent_within done sends.crumbs));
      triggers = take m (items_of (sent_within done sends.triggers));
    }

-- The first `done` operations are done, at these draws, one for each page that they start. The agent took k chunks, l crumbs and m
-- triggers of what they sent.
pub record ReplayClientIsAt (settings : PlainSettings) (client : ClientId) (ops : List Operation) (drawn : List Draw) (done k l m : ℕ) (player : PlainReplayClient) : Type 0 where
  pub playable : IsPlayable settings ops
  pub done_is : player.done ≡ done
  pub within : done ≤ length ops
  pub draws_are : player.works.core.draws ≡ drawn
  pub each : length drawn ≡ count_started settings.size ops done
  pub chunks : Waits k (chunks_within settings.size done (sends_of settings client ops drawn).drawn) player.works.chunks
  pub crumbs : Waits l (items_of (sent_within done (sends_of settings client ops drawn).crumbs)) player.works.crumbs
  pub triggers : Waits m (items_of (sent_within done (sends_of settings client ops drawn).triggers)) player.works.triggers
  -- the core and the autotriggers came by these operations
  pub inside : HasDone (made_for settings client ops) (take done ops) (gone_of settings.size (sends_of settings client ops drawn) done k l m) player.works

-- ---- what the calls do

-- The client is somewhere in these operations, with these rules of autotriggers, and the buffers of the pool have its size.
pub record IsWithin (rules : List AutoRule) (ops : List Operation) (pool : Pool) (player : PlainReplayClient) : Type 0 where
  pub settings : PlainSettings
  pub client : ClientId
  pub drawn : List Draw
  pub done : ℕ
  pub k : ℕ
  pub l : ℕ
  pub m : ℕ
  pub at : ReplayClientIsAt settings client ops drawn done k l m player
  pub rules_are : rules ≡ settings.autos
  pub sized : HasSize settings.size pool

-- the draws of the pages that these operations start, behind the history of the pool
abbrev pub draws_going : PlainSettings → List Operation → (done done' : ℕ) → (buffers : ℕ) → List PoolEvent → List Draw
draws_going settings ops done done' buffers history = draws_behind buffers history (count_started settings.size ops done' - count_started settings.size ops done)

-- The client has done operations up to this one, and drew once for each page that these start, with nothing else at the pool.
pub record Went (settings : PlainSettings) (client : ClientId) (ops : List Operation) (drawn : List Draw) (done done' k l m : ℕ) (history : List PoolEvent) (pool : Pool) (player : PlainReplayClient) (pool' : Pool) : Type 0 where
  pub at : ReplayClientIsAt settings client ops (drawn ++ draws_going settings ops done done' pool.buffers history) done' k l m player
  pub after : IsAfter (history ++ map event_drawn (draws_going settings ops done done' pool.buffers history)) pool'

-- Wherever the client was in these operations, it did the next ones, at most so many.
abbrev pub Goes : (stride : ℕ) → List Operation → PlainReplayClient → Pool → PlainReplayClient → Pool → Type 0
Goes stride ops old pool new pool' =
    (settings : PlainSettings) (client : ClientId) (drawn : List Draw) (done k l m : ℕ) (history : List PoolEvent)
    → ReplayClientIsAt settings client ops drawn done k l m old → IsAfter history pool → Went settings client ops drawn done (done_behind stride done ops) k l m history pool new pool'

-- The buffers of the pool are as many as before, and still of this size.
abbrev pub KeepsPool : Pool → Pool → Type 0
KeepsPool pool pool' = (pool'.buffers ≡ pool.buffers) × ((size : ℕ) → HasSize size pool → HasSize size pool')

-- The client is somewhere in these operations, with these rules of autotriggers, and what it draws from is ready for whatever they draw.
pub record IsWithinAt {P : Type 0} (way : Way P) (rules : List AutoRule) (ops : List Operation) (well : P) (player : PlainReplayClient) : Type 0 where
  pub settings : PlainSettings
  pub client : ClientId
  pub drawn : List Draw
  pub done : ℕ
  pub k : ℕ
  pub l : ℕ
  pub m : ℕ
  pub at : ReplayClientIsAt settings client ops drawn done k l m player
  pub rules_are : rules ≡ settings.autos
  pub ready : IsReadyFor way well settings.size MAX_OPERATIONS

-- The client has done operations up to this one, and made these draws for the pages that they start.
pub record WentOn {P : Type 0} (way : Way P) (settings : PlainSettings) (client : ClientId) (ops : List Operation) (drawn : List Draw) (done k l m : ℕ) (well : P) (player : PlainReplayClient) (well' : P) : Type 0 where
  pub more : List Draw
  pub at : ReplayClientIsAt settings client ops (drawn ++ more) done k l m player
  pub draws : DrawsAll way more well well'

-- Wherever the client was in these operations, it did the next ones, at most so many.
abbrev pub GoesOn : {P : Type 0} → Way P → (stride : ℕ) → List Operation → PlainReplayClient → P → PlainReplayClient → P → Type 0
GoesOn way stride ops old well new well' =
    (settings : PlainSettings) (client : ClientId) (drawn : List Draw) (done k l m : ℕ)
    → ReplayClientIsAt settings client ops drawn done k l m old → WentOn way settings client ops drawn (done_behind stride done ops) k l m well new well'

-- ---- what the agent takes

-- The next chunk of those that were sent, in the buffer of its page's draw.
pub record IsChunkAt (settings : PlainSettings) (client : ClientId) (ops : List Operation) (drawn : List Draw) (done k : ℕ) (chunk : Contents) : Type 0 where
  pub item : Sent Sheet
  pub next : slice_get (sends_of settings client ops drawn).chunks k ≡ Some item
  pub within : slice_get (sent_within done (sends_of settings client ops drawn).chunks) k ≡ Some item
  pub sheet : chunk.page ≡ Some item.item
  pub size : chunk.size ≡ settings.size
  pub owner : item.item.header.client ≡ client
  pub page : DrawnPage
  pub page_is : slice_get (sends_of settings client ops drawn).drawn item.item.header.page ≡ Some page
  pub stamp : ℕ
  pub draw : page.draw ≡ draws.Got chunk.number stamp

-- The next of these items, of which so many were sent.
pub record IsItemAt {A : Type 0} (done place : ℕ) (items : List (Sent A)) (x : A) : Type 0 where
  pub item : Sent A
  pub next : slice_get items place ≡ Some item
  pub within : slice_get (sent_within done items) place ≡ Some item
  pub is : item.item ≡ x

-- the next chunk goes to the agent, or all that were sent are gone
abbrev pub TakesChunk : PlainReplayClient → Option Unleased → PlainReplayClient → Type 0
TakesChunk old answer new =
    (settings : PlainSettings) (client : ClientId) (ops : List Operation) (drawn : List Draw) (done k l m : ℕ) → ReplayClientIsAt settings client ops drawn done k l m old
    → MatchOption answer ((k ≡ length (sent_within done (sends_of settings client ops drawn).chunks)) × ReplayClientIsAt settings client ops drawn done k l m new)
    (λ buffer. IsChunkAt settings client ops drawn done k buffer.chunk × ReplayClientIsAt settings client ops drawn done (k + 1) l m new)

abbrev pub TakesCrumb : PlainReplayClient → Option Crumb → PlainReplayClient → Type 0
TakesCrumb old answer new =
    (settings : PlainSettings) (client : ClientId) (ops : List Operation) (drawn : List Draw) (done k l m : ℕ) → ReplayClientIsAt settings client ops drawn done k l m old
    → MatchOption answer ((l ≡ length (sent_within done (sends_of settings client ops drawn).crumbs)) × ReplayClientIsAt settings client ops drawn done k l m new)
    (λ crumb. IsItemAt done l (sends_of settings client ops drawn).crumbs crumb × ReplayClientIsAt settings client ops drawn done k (l + 1) m new)

abbrev pub TakesTrigger : PlainReplayClient → Option Trigger → PlainReplayClient → Type 0
TakesTrigger old answer new =
    (settings : PlainSettings) (client : ClientId) (ops : List Operation) (drawn : List Draw) (done k l m : ℕ) → ReplayClientIsAt settings client ops drawn done k l m old
    → MatchOption answer ((m ≡ length (sent_within done (sends_of settings client ops drawn).triggers)) × ReplayClientIsAt settings client ops drawn done k l m new)
    (λ trigger. IsItemAt done m (sends_of settings client ops drawn).triggers trigger × ReplayClientIsAt settings client ops drawn done k l (m + 1) new)

-- ---- what is asked

-- There are operations left exactly where the test is true.
abbrev pub TellsLeft : List Operation → PlainReplayClient → Bool → Type 0
TellsLeft ops player left =
    (settings : PlainSettings) (client : ClientId) (drawn : List Draw) (done k l m : ℕ) → ReplayClientIsAt settings client ops drawn done k l m player → IsTrue left ↔ (done < length ops)

-- All that was sent is gone exactly where the test is true.
abbrev pub TellsBare : PlainReplayClient → Bool → Type 0
TellsBare player bare =
    (settings : PlainSettings) (client : ClientId) (ops : List Operation) (drawn : List Draw) (done k l m : ℕ) → ReplayClientIsAt settings client ops drawn done k l m player
    → IsTrue bare
    ↔ ((k ≡ length (sent_within done (sends_of settings client ops drawn).chunks)) × (l ≡ length (sent_within done (sends_of settings client ops drawn).crumbs))
    × (m ≡ length (sent_within done (sends_of settings client ops drawn).triggers)))

-- ---- the book

-- The client has done all of some operations.
pub record IsDone (player : PlainReplayClient) : Type 0 where
  pub settings : PlainSettings
  pub client : ClientId
  pub ops : List Operation
  pub drawn : List Draw
  pub k : ℕ
  pub l : ℕ
  pub m : ℕ
  pub at : ReplayClientIsAt settings client ops drawn (length ops) k l m player

-- The book is that of its draws and of the pages of all its operations.
abbrev pub Notes : PlainReplayClient → PlainClientBook → Type 0
Notes player book =
    (settings : PlainSettings) (client : ClientId) (ops : List Operation) (drawn : List Draw) (k l m : ℕ) → ReplayClientIsAt settings client ops drawn (length ops) k l m player
    → book ≡ record { client = client; draws = drawn; pages = map note_of (pages_of settings.size ops) }
