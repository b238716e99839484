-- The journal that books have: their draws, their logs, and the order of the messages that were heard.
use Rattle.std.specs.Prelude.{map}
use Rattle.hs_records.specs.declared.books.AgentBook.{AgentBook}
use Rattle.hs_records.specs.declared.books.ClientBook.{ClientBook}
use Rattle.hs_records.specs.Journals.{PlainJournal}
use Rattle.hs_outcome.specs.declared.outcome.Books.{Books}

abbrev pub journal_by : Books → PlainJournal
journal_by books =
    record {
      nodes = books.nodes;
      clients = books.each;
      draws = map (λ (book : ClientBook). book.draws.items) books.clients.items;
      logs = map (λ (book : AgentBook). book.log.items) books.agents.items;
      told = books.told.items;
    }
