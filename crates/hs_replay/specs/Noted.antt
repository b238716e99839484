-- That the books that a replay leaves are those of the schedule's journal.
use Rattle.std.specs.Prelude.{◌≡◌, [], ◌∷◌, map, refl}
use Rattle.hs_base.specs.Listing.{listing}
use Rattle.hs_base.specs.declared.told.Fate.TheVariants.{Live}
use Rattle.hs_records.specs.declared.journal.Draw.TheVariants.{Got}
use Rattle.hs_records.specs.Books.{agent_book_of, client_book_of}
use Rattle.hs_law_journal.specs.Following.{followed}
use Rattle.hs_law_journal.specs.Samples.{chunk, turn}
use Rattle.hs_law_journal.specs.Workloads.{one_point}
use Rattle.hs_law_run.specs.Lockstep.{lockstep}
use Rattle.hs_law_outcome.specs.Outcomes.{client_books, agent_books}
use Rattle.hs_records.specs.Plain.{PlainWorkload}
use Rattle.hs_replay.specs.declared.books.NotedBooks.{NotedBooks}

pub record AreNoted (W : PlainWorkload) (noted : NotedBooks) : Type 0 where
  pub clients_are : map client_book_of noted.clients.items ≡ client_books W (lockstep W)
  pub agents_are : map agent_book_of noted.agents.items ≡ agent_books (followed W (lockstep W))

-- ---- worked example

-- the one client drew once and has a page with the record of a trace, and the one agent took its chunk, which lives
abbrev of_one_point : NotedBooks
of_one_point =
    record {
      clients = listing (record {
        client = record { node = 0; number = 0 };
        draws = listing (Got 0 0 ∷ []);
        pages = listing (record { trace = record { 0 = 1 }; first = 0; count = 1 } ∷ []);
      } ∷ []);
      agents = listing (record {
        node = record { 0 = 0 };
        log = listing (chunk ∷ turn ∷ []);
        standings = listing (record { client = record { node = 0; number = 0 }; page = 0; fate = Live } ∷ []);
        claims = listing [];
        sent = listing [];
      } ∷ []);
    }

one_point_noted : AreNoted one_point of_one_point
one_point_noted = record { clients_are = refl; agents_are = refl }
