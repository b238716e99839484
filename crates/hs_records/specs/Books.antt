-- The books of clients and agents without where they lie in memory.
use Rattle.std.specs.Prelude.{ℕ, List, map}
use Rattle.hs_base.specs.declared.ids.ClientId.{ClientId}
use Rattle.hs_base.specs.declared.ids.NodeId.{NodeId}
use Rattle.hs_records.specs.declared.journal.Draw.{Draw}
use Rattle.hs_records.specs.declared.journal.Step.{Step}
use Rattle.hs_records.specs.declared.books.PageNote.{PageNote}
use Rattle.hs_records.specs.declared.books.ClientBook.{ClientBook}
use Rattle.hs_records.specs.declared.books.Standing.{Standing}
use Rattle.hs_records.specs.declared.books.Claim.{Claim}
use Rattle.hs_records.specs.declared.books.AgentBook.{AgentBook}

pub record PlainClientBook : Type 0 where
  pub client : ClientId
  pub draws : List Draw
  pub pages : List PageNote

abbrev pub client_book_of : ClientBook → PlainClientBook
client_book_of book = record { client = book.client; draws = book.draws.items; pages = book.pages.items }

pub record PlainAgentBook : Type 0 where
  pub node : NodeId
  pub log : List Step
  pub standings : List Standing
  pub claims : List Claim
  pub sent : List (List ℕ)

abbrev pub agent_book_of : AgentBook → PlainAgentBook
agent_book_of book =
    record {
      node = book.node;
      log = book.log.items;
      standings = book.standings.items;
      claims = book.claims.items;
      sent = map (λ page. page.items) book.sent.items;
    }
