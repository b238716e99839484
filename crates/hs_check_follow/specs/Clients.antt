-- What is left of what a client sends when its agent took some: all but the first so many chunks, which are kept or still to be filled, and the
-- first so many crumbs and triggers, which lie in queues.
use Rattle.std.specs.Prelude.{◌≡◌, ◌⊎◌, ℕ, ◌<◌, ◌≤◌, List, ◌++◌, length, drop, slice_get, Option, Some, None}
use Rattle.std.specs.Option.{option_to_list}
use Rattle.hs_base.specs.declared.told.Crumb.{Crumb}
use Rattle.hs_base.specs.declared.told.Trigger.{Trigger}
use Rattle.hs_base.specs.Changing.{ChangesAt}
use Rattle.hs_check_follow.specs.Finding.{IsFoundClient}
use Rattle.hs_check_follow.specs.Fillings.{IsFilling, MayFill, Fills}
use Rattle.hs_check_follow.specs.declared.filling.Filling.{Filling}
use Rattle.hs_check_follow.specs.declared.client.FollowedClient.{FollowedClient}
use Rattle.hs_records.specs.Books.{client_book_of}
use Rattle.hs_records.specs.Journals.{PlainJournal}
use Rattle.hs_records.specs.declared.journal.Step.{Step}
use Rattle.hs_law_journal.specs.Following.{Chunks, Crumbs, Triggers, taken}
use Rattle.hs_law_outcome.specs.Outcomes.{client_book}
use Rattle.hs_replay_client.specs.ReplayClients.{Unleased}
use Rattle.hs_records.specs.Plain.{Operation, PlainWorkload}
use Rattle.hs_client.specs.OneMore.{items_of}
use Rattle.hs_client.specs.Sending.{ClientSends, client_sends, draws_at, operations_at, place_of}

-- The first l crumbs and m triggers are gone.
pub record IsLeft (sends : ClientSends) (l m : ℕ) (s : FollowedClient) : Type 0 where
  pub crumbs : s.crumbs.items ≡ items_of (drop l sends.crumbs)
  pub triggers : s.triggers.items ≡ items_of (drop m sends.triggers)
  pub found : IsFoundClient sends s.found

-- So many chunks of a client were filled.
abbrev pub FillsAt : PlainWorkload → PlainJournal → (node client k : ℕ) → Filling → Type 0
FillsAt W J node client k f =
    let place = place_of W.settings.clients node client in
    IsFilling W.settings (record { node = node; number = client }) (operations_at W place) (draws_at J place) k f

-- A client of a node whose agent has this log.
pub record ClientStands (W : PlainWorkload) (J : PlainJournal) (node : ℕ) (log : List Step) (client : ℕ) (s : FollowedClient) : Type 0 where
  pub low : place_of W.settings.clients node client < length W.clients
  pub chunks : FillsAt W J node client (taken (Chunks client) log) s.chunks
  pub left : IsLeft (client_sends W J node client) (taken (Crumbs client) log) (taken (Triggers client) log) s
  pub book : client_book_of s.book ≡ client_book W J (place_of W.settings.clients node client)

pub record ClientsStand (W : PlainWorkload) (J : PlainJournal) (node : ℕ) (log : List Step) (clients : List FollowedClient) : Type 0 where
  pub count : length clients ≡ W.settings.clients
  pub each : (client : ℕ) (s : FollowedClient) → slice_get clients client ≡ Some s → ClientStands W J node log client s

-- ---- filling

-- the operations of the client whose chunks these are
abbrev pub own_operations : PlainWorkload → Filling → List Operation
own_operations W f = operations_at W (place_of W.settings.clients f.client.node f.client.number)

-- A client's next chunk may be asked for.
pub record MayFillNext (W : PlainWorkload) (s : FollowedClient) : Type 0 where
  pub low : place_of W.settings.clients s.chunks.client.node s.chunks.client.number < length W.clients
  pub may : MayFill W.settings.autos (own_operations W s.chunks) s.chunks

abbrev pub MayFillAny : PlainWorkload → List FollowedClient → Type 0
MayFillAny W clients = (client : ℕ) (s : FollowedClient) → slice_get clients client ≡ Some s → MayFillNext W s

-- ---- taking out

-- There is no client at this place, or what was taken out of its queues is this.
pub record IsNoClient (client : ℕ) (old new : List FollowedClient) : Type 0 where
  pub high : length old ≤ client
  pub same : new ≡ old

abbrev pub Pops : {X : Type 0} → (FollowedClient → Option X → FollowedClient → Type 0) → ℕ → List FollowedClient → Option X → List FollowedClient → Type 0
Pops Takes client old answer new = ((answer ≡ None) × IsNoClient client old new) ⊎ ChangesAt client old new (λ s s'. Takes s answer s')

-- what the queues have beside chunks, crumbs or triggers
pub record SameBeside (old new : FollowedClient) : Type 0 where
  pub found : new.found ≡ old.found
  pub book : new.book ≡ old.book

-- The next chunk was filled, or there was none.
pub record PopsChunk (W : PlainWorkload) (old : FollowedClient) (answer : Option Unleased) (new : FollowedClient) : Type 0 where
  pub fills : Fills W.settings.autos (own_operations W old.chunks) old.chunks answer new.chunks
  pub crumbs : new.crumbs ≡ old.crumbs
  pub triggers : new.triggers ≡ old.triggers
  pub beside : SameBeside old new

pub record PopsCrumb (old : FollowedClient) (answer : Option Crumb) (new : FollowedClient) : Type 0 where
  pub items : old.crumbs.items ≡ option_to_list answer ++ new.crumbs.items
  pub rest : new.crumbs.items ≡ drop 1 old.crumbs.items
  pub chunks : new.chunks ≡ old.chunks
  pub triggers : new.triggers ≡ old.triggers
  pub beside : SameBeside old new

pub record PopsTrigger (old : FollowedClient) (answer : Option Trigger) (new : FollowedClient) : Type 0 where
  pub items : old.triggers.items ≡ option_to_list answer ++ new.triggers.items
  pub rest : new.triggers.items ≡ drop 1 old.triggers.items
  pub chunks : new.chunks ≡ old.chunks
  pub crumbs : new.crumbs ≡ old.crumbs
  pub beside : SameBeside old new
