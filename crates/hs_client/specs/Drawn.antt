-- The pages of a client beside its draws: the draw of this place is that of the page of this number. A page for which a buffer
-- was got is written into it, and the chunk goes to the agent; a page for which the pool was empty goes nowhere.
use Rattle.std.specs.Prelude.{ℕ, ◌+◌, Bool, true, false, List, [], ◌∷◌}
use Rattle.hs_base.specs.declared.ids.ClientId.{ClientId}
use Rattle.hs_records.specs.Plain.{Operation}
use Rattle.hs_records.specs.Pages.{PlainPage}
use Rattle.hs_records.specs.declared.journal.Draw.{Draw}
use Rattle.hs_records.specs.declared.journal.Draw.TheVariants.{Got, Empty}
use Rattle.hs_client.specs.Timing.{TimedPage, timed_pages}

-- a page with its client, its number there, its draw, and the operations that start and send it
pub record DrawnPage : Type 0 where
  pub client : ClientId
  pub number : ℕ
  pub page : PlainPage
  pub started : ℕ
  pub sent : ℕ
  pub draw : Draw

abbrev pub has_buffer : Draw → Bool
has_buffer (Got buffer stamp) = true
has_buffer (Empty stamp) = false

abbrev pub stamp_of : Draw → ℕ
stamp_of (Got buffer stamp) = stamp
stamp_of (Empty stamp) = stamp

-- pages from this number on with these draws
abbrev pub drawn_from : ClientId → ℕ → List TimedPage → List Draw → List DrawnPage
drawn_from client number [] draws = []
drawn_from client number (timed ∷ pages) [] = []
drawn_from client number (timed ∷ pages) (draw ∷ draws) =
    record {
      client = client;
      number = number;
      page = timed.page;
      started = timed.started;
      sent = timed.sent;
      draw = draw;
    } ∷ drawn_from client (number + 1) pages draws

abbrev pub drawn_pages : ℕ → ClientId → List Operation → List Draw → List DrawnPage
drawn_pages size client ops draws = drawn_from client 0 (timed_pages size ops) draws
