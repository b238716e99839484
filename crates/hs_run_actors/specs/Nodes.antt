-- The clients of a node before anything was done, with the port of its agent, which has the other ends; and what they leave when all
-- was done.
use Rattle.std.specs.Prelude.{◌≡◌, ℕ, ◌*◌, ◌<◌, List, [], ◌∷◌, length, map, take, drop, slice_get, Some}
use Rattle.hs_base.specs.Listing.{Listing}
use Rattle.hs_base.specs.declared.limits.TheConstants.{MAX_TAKEN}
use Rattle.hs_base.specs.declared.told.Crumb.{Crumb}
use Rattle.hs_base.specs.declared.told.Trigger.{Trigger}
use Rattle.hs_base.specs.Ids.{client_of}
use Rattle.hs_records.specs.Books.{PlainClientBook}
use Rattle.hs_link.specs.Contents.{Outgoing, Incoming, AreNewEnds}
use Rattle.hs_live.specs.Keys.{Key}
use Rattle.hs_live.specs.Live.{Port, IsEnd}
use Rattle.hs_records.specs.Plain.{Operation, PlainSettings, PlainWorkload}
use Rattle.hs_ring.specs.Parts.{Leased, Drawing, Giving}
use Rattle.hs_client.specs.Sending.{ops_of}
use Rattle.hs_words.specs.Buffers.{Buffer}
use Rattle.hs_records.specs.Validity.{IsValid, client_pieces}
use Rattle.hs_records.specs.Views.{operations_of, workload_of}
use Rattle.hs_records.specs.declared.operation.Op.{Op}
use Rattle.hs_records.specs.declared.operation.Workload.{Workload}
use Rattle.hs_run_actors.specs.ClientActors.{PlainClientActor}
use Rattle.hs_run_actors.specs.Counting.{crumbs_of, triggers_of}
use Rattle.hs_run_actors.specs.Standing.{ClientActorIsAt, Notes, key_for}

-- ---- the clients

-- The workload is valid and has this node, and these are the operations of the node's clients.
pub record AreClientsOf (w : Workload) (node : ℕ) (clients : List (Listing Op)) : Type 0 where
  pub valid : IsValid (workload_of w)
  pub low : node < w.settings.nodes
  pub are : clients ≡ take w.settings.clients (drop (node * w.settings.clients) w.clients.items)

-- how many pages each of these clients may draw for
abbrev pub lefts_of : ℕ → List (Listing Op) → List ℕ
lefts_of size clients = map (λ ops. client_pieces size (operations_of ops)) clients

-- ---- the beginning

-- the drawer of the client with this number in a new pool
abbrev pub drawer_for : PlainSettings → Giving → (number : ℕ) → List Operation → Drawing
drawer_for settings giver number ops =
    record {
      pool = giver.pool;
      buffers = settings.buffers;
      size = settings.size;
      number = number;
      most = client_pieces settings.size ops;
      left = client_pieces settings.size ops;
      floor = 0;
      answers = [];
    }

-- the giver of a new pool with a drawer for each client of a node
abbrev pub IsGiverFor : PlainSettings → Giving → Type 0
IsGiverFor settings giver = giver ≡ record { pool = giver.pool; buffers = settings.buffers; size = settings.size; drawers = settings.clients; floor = 0; turns = [] }

-- The link is new, and the other end stands at the client's number.
pub record LinkBegins {T : Type 0} (key : Key) (room number : ℕ) (s : Outgoing T Key) (receivers : List (Incoming T Key)) : Type 0 where
  pub receiver : Incoming T Key
  pub end : IsEnd number receivers receiver
  pub new : AreNewEnds key MAX_TAKEN room s receiver

-- what receives of a node's clients
pub record Receiving : Type 0 where
  pub chunks : List (Incoming (Buffer Leased) Key)
  pub crumbs : List (Incoming Crumb Key)
  pub triggers : List (Incoming Trigger Key)

-- The client has done nothing, with its drawer of the pool and its links.
pub record ClientActorBegins (W : PlainWorkload) (node : ℕ) (giver : Giving) (number : ℕ) (receiving : Receiving) (caller : PlainClientActor) : Type 0 where
  pub at : ClientActorIsAt W.settings (client_of node number) (ops_of W node number) caller
  pub done : caller.done ≡ 0
  pub drawer_is : caller.client.drawer ≡ drawer_for W.settings giver number (ops_of W node number)
  pub chunks : LinkBegins (key_for W.settings (client_of node number) giver) (client_pieces W.settings.size (ops_of W node number)) number caller.client.chunks receiving.chunks
  pub crumbs : LinkBegins (key_for W.settings (client_of node number) giver) (crumbs_of (ops_of W node number)) number caller.client.crumbs receiving.crumbs
  pub triggers : LinkBegins (key_for W.settings (client_of node number) giver) (triggers_of (ops_of W node number)) number caller.client.triggers receiving.triggers

-- So many clients of the node, the first ones, with the other ends of their links.
pub record AreBegun (W : PlainWorkload) (node : ℕ) (giver : Giving) (count : ℕ) (callers : List PlainClientActor) (receiving : Receiving) : Type 0 where
  pub callers_are : length callers ≡ count
  pub chunks : length receiving.chunks ≡ count
  pub crumbs : length receiving.crumbs ≡ count
  pub triggers : length receiving.triggers ≡ count
  pub each : (number : ℕ) (caller : PlainClientActor) → slice_get callers number ≡ Some caller → ClientActorBegins W node giver number receiving caller

abbrev pub receiving_of : Port → Receiving
receiving_of port = record { chunks = port.chunks; crumbs = port.crumbs; triggers = port.triggers }

-- All clients of the node, and the port with the other ends and the pool's giver.
pub record NodeBegins (W : PlainWorkload) (node : ℕ) (callers : List PlainClientActor) (port : Port) : Type 0 where
  pub giver : IsGiverFor W.settings port.giver
  pub begun : AreBegun W node port.giver W.settings.clients callers (receiving_of port)

-- ---- the end

-- Each book notes what its client did.
abbrev pub AreNotes : List PlainClientActor → List PlainClientBook → Type 0
AreNotes [] [] = Unit {0}
AreNotes [] (book ∷ books) = ⊥
AreNotes (caller ∷ callers) [] = ⊥
AreNotes (caller ∷ callers) (book ∷ books) = Notes caller book × AreNotes callers books
