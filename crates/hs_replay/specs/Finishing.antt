-- What a node leaves: the book of its agent, and those of its clients, when all operations are done and nothing is pinned.
use Rattle.std.specs.Prelude.{◌≡◌, ℕ, List, [], length, map, slice_get, Some}
use Rattle.hs_client.specs.Calls.{note_of}
use Rattle.hs_records.specs.Books.{PlainClientBook, PlainAgentBook}
use Rattle.hs_law_journal.specs.Following.{NodeRun}
use Rattle.hs_law_run.specs.Lockstep.{Machine}
use Rattle.hs_law_run.specs.Parts.{node_at}
use Rattle.hs_law_agent.specs.Books.{book_of}
use Rattle.hs_replay_client.specs.Places.{ReplayClientIsAt}
use Rattle.hs_replay_client.specs.ReplayClients.{PlainReplayClient}
use Rattle.hs_records.specs.Pages.{pages_of}
use Rattle.hs_records.specs.Plain.{PlainWorkload}
use Rattle.hs_client.specs.Sending.{draws_at, operations_at, place_of}
use Rattle.hs_replay.specs.Left.{IsNodeDone}
use Rattle.hs_replay.specs.Parts.{PlainReplayNode}
use Rattle.hs_replay.specs.Standing.{NodeIsAt}

-- The node is where the machine says, its clients have done all of their operations, and nothing is pinned.
pub record HasEnded (W : PlainWorkload) (m : Machine) (n : ℕ) (node : PlainReplayNode) : Type 0 where
  pub at : NodeIsAt W m n node
  pub done : IsNodeDone W m n
  pub none : at.run.state.pinned ≡ []

-- The book is that of the agent of the node.
pub record IsBookAt (W : PlainWorkload) (m : Machine) (n : ℕ) (book : PlainAgentBook) : Type 0 where
  pub run : NodeRun
  pub at : node_at W m.journal n ≡ Some run
  pub is : book ≡ book_of run.node run.state

-- the book of a client of the node
abbrev pub client_noted : PlainWorkload → Machine → ℕ → ℕ → PlainClientBook
client_noted W m n client =
    let place = place_of W.settings.clients n client in
    record {
      client = record { node = n; number = client };
      draws = draws_at m.journal place;
      pages = map note_of (pages_of W.settings.size (operations_at W place));
    }

-- These are the clients of the node, which have done all of their operations.
pub record HaveEnded (W : PlainWorkload) (m : Machine) (n : ℕ) (players : List PlainReplayClient) : Type 0 where
  pub count : length players ≡ W.settings.clients
  pub each : (client : ℕ) (player : PlainReplayClient) → slice_get players client ≡ Some player
      → (k : ℕ) × (l : ℕ) × (t : ℕ)
      × ReplayClientIsAt W.settings (record { node = n; number = client }) (operations_at W (place_of W.settings.clients n client)) (draws_at m.journal (place_of W.settings.clients n client))
      (length (operations_at W (place_of W.settings.clients n client))) k l t player
