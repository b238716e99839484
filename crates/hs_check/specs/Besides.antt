-- Gives beside draws, page by page: of the stamps of a log, which rise, those of passes before the page's round are below its draw
-- and those of passes behind it above. So it is enough to look at the last one before and at the first one behind.
use Rattle.std.specs.Prelude.{◌≡◌, ℕ, ◌+◌, ◌-◌, ◌/◌, Bool, true, false, ◌&&◌, ◌||◌, ◌==◌, nat_lt, min, List, [], ◌∷◌, length, map, slice_index, refl}
use Rattle.hs_check_follow.specs.declared.found.FoundClient.{FoundClient}
use Rattle.hs_records.specs.declared.journal.Draw.{Draw}
use Rattle.hs_records.specs.declared.journal.Draw.TheVariants as draws
use Rattle.hs_client.specs.Drawn.{DrawnPage, stamp_of}
use Rattle.hs_client.specs.Sending.{ClientSends}

-- how many stamps there are behind so many passes, where that is told of no pass and of each
abbrev pub stamps_behind : List ℕ → ℕ → ℕ
stamps_behind counts k = slice_index counts (min k (length counts - 1))

-- whether a draw with so many rounds before its own has this stamp rightly
abbrev pub stands_beside : (stamps counts : List ℕ) → (rounds draw : ℕ) → Bool
stands_beside stamps counts rounds draw =
    (stamps_behind counts rounds == 0 || nat_lt (slice_index stamps (stamps_behind counts rounds - 1)) draw)
    && (stamps_behind counts (rounds + 1) == length stamps || nat_lt draw (slice_index stamps (stamps_behind counts (rounds + 1))))

-- the pages that these operations start, each with its draw
abbrev pub all_beside : ℕ → (stamps counts : List ℕ) → (started : List ℕ) → List Draw → Bool
all_beside stride stamps counts [] draws = true
all_beside stride stamps counts (number ∷ started) [] = true
all_beside stride stamps counts (number ∷ started) (draw ∷ draws) = stands_beside stamps counts (number / stride) (stamp_of draw) && all_beside stride stamps counts started draws

-- the pages of all clients of a node, with the draws of each
abbrev pub clients_beside : ℕ → (stamps counts : List ℕ) → List (List Draw) → List FoundClient → Bool
clients_beside stride stamps counts drawn [] = true
clients_beside stride stamps counts [] (client ∷ clients) = true
clients_beside stride stamps counts (draws ∷ drawn) (client ∷ clients) =
    all_beside stride stamps counts client.started.items draws && clients_beside stride stamps counts drawn clients

-- the draws of the pages of clients
abbrev pub draws_by : List ClientSends → List (List Draw)
draws_by sends = map (λ (s : ClientSends). map (λ (page : DrawnPage). page.draw) s.drawn) sends

-- gives with the stamps 1 and 4 in the first and in the third pass, and a draw of the second round
beside : (stands_beside (1 ∷ 4 ∷ []) (0 ∷ 1 ∷ 1 ∷ 2 ∷ []) 1 3 ≡ true) × (stands_beside (1 ∷ 4 ∷ []) (0 ∷ 1 ∷ 1 ∷ 2 ∷ []) 1 0 ≡ false) × (stands_beside (1 ∷ 4 ∷ []) (0 ∷ 1 ∷ 1 ∷ 2 ∷ []) 1 5 ≡ false)
beside = (refl, refl, refl)

-- with eight operations in a round, the ninth starts a page of the second one
page_of_the_second : (all_beside 8 (1 ∷ 4 ∷ []) (0 ∷ 1 ∷ 1 ∷ 2 ∷ []) (8 ∷ []) (draws.Empty 3 ∷ []) ≡ true) × (all_beside 8 (1 ∷ 4 ∷ []) (0 ∷ 1 ∷ 1 ∷ 2 ∷ []) (8 ∷ []) (draws.Empty 5 ∷ []) ≡ false)
page_of_the_second = (refl, refl)
