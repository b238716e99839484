-- What a client sends at given draws: its chunks are to be taken, from the first on, and its crumbs and triggers lie in queues. The
-- operations of all items are found, and the book is that of the draws.
use Rattle.std.specs.Prelude.{◌≡◌, List, map}
use Rattle.hs_base.specs.declared.ids.ClientId.{ClientId}
use Rattle.hs_client.specs.Calls.{note_of}
use Rattle.hs_check_follow.specs.Finding.{IsFoundClient}
use Rattle.hs_records.specs.Books.{client_book_of, PlainClientBook}
use Rattle.hs_records.specs.declared.journal.Draw.{Draw}
use Rattle.hs_records.specs.Pages.{pages_of}
use Rattle.hs_records.specs.Plain.{Operation, PlainSettings}
use Rattle.hs_client.specs.OneMore.{items_of}
use Rattle.hs_client.specs.Sending.{sends_of}
use Rattle.hs_replay_client.specs.Places.{Notes}
use Rattle.hs_replay_client.specs.ReplayClients.{PlainReplayClient}
use Rattle.hs_check_follow.specs.Fillings.{IsFilling}
use Rattle.hs_check_follow.specs.declared.client.FollowedClient.{FollowedClient}

pub record IsFollowedClient (settings : PlainSettings) (client : ClientId) (ops : List Operation) (draws : List Draw) (s : FollowedClient) : Type 0 where
  pub chunks : IsFilling settings client ops draws 0 s.chunks
  pub crumbs : s.crumbs.items ≡ items_of (sends_of settings client ops draws).crumbs
  pub triggers : s.triggers.items ≡ items_of (sends_of settings client ops draws).triggers
  pub found : IsFoundClient (sends_of settings client ops draws) s.found
  pub book : client_book_of s.book ≡ record { client = client; draws = draws; pages = map note_of (pages_of settings.size ops) }

-- The book is what the client noted, but for the draws, which are these.
abbrev pub NotesBut : List Draw → PlainReplayClient → PlainClientBook → Type 0
NotesBut draws player book = (noted : PlainClientBook) × Notes player noted × (book ≡ record { client = noted.client; draws = draws; pages = noted.pages })
