-- The books of the clients of a workload, as the journal has their draws. They come in order of node and number, each with a draw for
-- each page, and the pages of each hold its records without a gap.
use Rattle.std.specs.Prelude.{◌≡◌, ◌≤◌, true, length, All, sum_by}
use Rattle.hs_records.specs.declared.books.PageNote.{PageNote}
use Rattle.hs_records.specs.Books.{PlainClientBook, PlainAgentBook}
use Rattle.hs_records.specs.Journals.{PlainJournal}
use Rattle.hs_ledger.specs.Books.{AreInOrder, AreNumbered, IsOfGotPage, record_count}
use Rattle.hs_records.specs.Plain.{PlainWorkload}
use Rattle.hs_law_journal.specs.Following.{followed}
use Rattle.hs_law_journal.specs.Played.{played}
use Rattle.hs_law_journal.specs.Shape.{has_shape}
use Rattle.hs_law_outcome.specs.Origins.{HasItsClients}
use Rattle.hs_law_outcome.specs.Outcomes.{client_books, agent_books}
use Rattle.hs_law_outcome.specs.Records.{EndsItsTraces, all_records}

-- what a ledger asks of a client's book, without what the agents have
pub record StandsAlone (book : PlainClientBook) : Type 0 where
  pub drawn : length book.draws ≡ length book.pages
  pub counted : All (λ (note : PageNote). 1 ≤ note.count) book.pages
  pub numbered : AreNumbered book.pages

pub record ClientBooksFit (W : PlainWorkload) (J : PlainJournal) : Type 0 where
  pub ordered : AreInOrder (client_books W J)
  pub each : All StandsAlone (client_books W J)
  -- as many records as the workload has
  pub total : sum_by (λ (book : PlainClientBook). record_count book.pages) (client_books W J) ≡ length (all_records W)

abbrev pub BooksOfClientsFit : Type 0
BooksOfClientsFit = (W : PlainWorkload) (J : PlainJournal) → EndsItsTraces W → HasItsClients W → has_shape (played W J) ≡ true → ClientBooksFit W J

-- Each standing of an agent is that of a page for which a client of its node got a buffer.
abbrev pub StandingsAreOfGotPages : Type 0
StandingsAreOfGotPages =
    (W : PlainWorkload) (J : PlainJournal) → HasItsClients W
    → All (λ (book : PlainAgentBook). All (IsOfGotPage (client_books W J) book.node.0) book.standings) (agent_books (followed W J))
