-- What the clients of a run that is over noted, node by node.
use Rattle.std.specs.Prelude.{◌≡◌, ℕ, suc, ◌*◌, List, ◌++◌, length, map, slice_get, Some}
use Rattle.std.specs.List.{range_with_len}
use Rattle.hs_base.specs.Ids.{client_of}
use Rattle.hs_records.specs.Books.{PlainClientBook}
use Rattle.hs_records.specs.Journals.{PlainJournal}
use Rattle.hs_law_outcome.specs.Outcomes.{client_book}
use Rattle.hs_records.specs.Plain.{PlainWorkload}
use Rattle.hs_client.specs.Sending.{draws_at, place_of, ops_of}
use Rattle.hs_run_actors.specs.ClientActors.{PlainClientActor}
use Rattle.hs_run_actors.specs.Nodes.{AreNotes}
use Rattle.hs_run_actors.specs.Standing.{ClientActorIsAt}

-- The client has done all, and the journal notes its draws.
pub record IsNoted (W : PlainWorkload) (J : PlainJournal) (node number : ℕ) (caller : PlainClientActor) : Type 0 where
  pub at : ClientActorIsAt W.settings (client_of node number) (ops_of W node number) caller
  pub all : caller.done ≡ length (ops_of W node number)
  pub draws : draws_at J (place_of W.settings.clients node number) ≡ caller.client.core.draws

-- the books of a node's clients
abbrev pub books_of : PlainWorkload → PlainJournal → ℕ → List PlainClientBook
books_of W J node = map (client_book W J) (range_with_len (node * W.settings.clients) W.settings.clients)

-- those of the first so many nodes
abbrev pub first_books : PlainWorkload → PlainJournal → ℕ → List PlainClientBook
first_books W J nodes = map (client_book W J) (range_with_len 0 (nodes * W.settings.clients))

abbrev pub NodeBooksAre : Type 0
NodeBooksAre =
    (W : PlainWorkload) (J : PlainJournal) (node : ℕ) (callers : List PlainClientActor) (books : List PlainClientBook) → length callers ≡ W.settings.clients
    → ((number : ℕ) (caller : PlainClientActor) → slice_get callers number ≡ Some caller → IsNoted W J node number caller) → AreNotes callers books → books ≡ books_of W J node

abbrev pub AllBooksAre : Type 0
AllBooksAre = (W : PlainWorkload) (J : PlainJournal) (nodes : ℕ) → first_books W J (suc nodes) ≡ first_books W J nodes ++ books_of W J nodes
