-- The draws of a node's clients, each with what an unread offer asks of its page: its client and number, whether it has a buffer,
-- when the client drew next, and which operation starts it.
use Rattle.std.specs.Prelude.{◌≡◌, ℕ, ◌+◌, true, false, List, [], ◌∷◌, ◌++◌, Option, Some, None, refl}
use Rattle.hs_records.specs.declared.journal.Draw.{Draw}
use Rattle.hs_records.specs.declared.journal.Draw.TheVariants as draws
use Rattle.hs_client.specs.Drawn.{has_buffer, stamp_of}
use Rattle.hs_check_follow.specs.declared.found.FoundClient.{FoundClient}
use Rattle.hs_check.specs.declared.page_draws.PageDraw.{PageDraw}

-- the stamp of the first of these draws
abbrev pub first_stamp : List Draw → Option ℕ
first_stamp [] = None
first_stamp (draw ∷ later) = Some (stamp_of draw)

-- the draws of a client for its pages from this number on, which these operations start
abbrev pub page_draws : (client page : ℕ) → List ℕ → List Draw → List PageDraw
page_draws client page [] drawn = []
page_draws client page (started ∷ more) [] = []
page_draws client page (started ∷ more) (draw ∷ later) =
    record {
      page = record { client = client; page = page };
      stamp = stamp_of draw;
      got = has_buffer draw;
      next = first_stamp later;
      started = started;
    } ∷ page_draws client (page + 1) more later

-- the draws of clients from this number on, each with its draws
abbrev pub all_page_draws : (client : ℕ) → List FoundClient → List (List Draw) → List PageDraw
all_page_draws client [] lists = []
all_page_draws client (found ∷ clients) [] = []
all_page_draws client (found ∷ clients) (drawn ∷ lists) = page_draws client 0 found.started.items drawn ++ all_page_draws (client + 1) clients lists

-- two draws of the third client, of which the second one found no buffer
two_draws : page_draws 2 0 (1 ∷ 9 ∷ []) (draws.Got 0 4 ∷ draws.Empty 7 ∷ [])
    ≡ record { page = record { client = 2; page = 0 }; stamp = 4; got = true; next = Some 7; started = 1 }
    ∷ record { page = record { client = 2; page = 1 }; stamp = 7; got = false; next = None; started = 9 } ∷ []
two_draws = refl
