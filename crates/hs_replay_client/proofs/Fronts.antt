-- The chunks of the pages that are sent first. The pages of a client are sent in their order, so these are a front of its pages.
use Rattle.std.proofs.Common.{◌≡◌, ℕ, ◌+◌, ◌≤◌, Bool, true, false, List, [], ◌∷◌, map, filter, refl, sym, ap, ◌∙◌, arith}
use Rattle.hs_replay_client.proofs.Prelude.{ltb-false, le-ltb, nat_lt, flat_map, ClientId, Draw, filled_chunks, clear_chunk, DrawnPage, pages_within, Unleased, buffer_got, chunk_of}
use Rattle.hs_records.specs.declared.journal.Draw.TheVariants as noted
use Rattle.hs_client.specs.Calls.{filled}
use Rattle.hs_records.specs.Pages.{PlainPage}
use Rattle.hs_client.specs.Drawn.{drawn_from}
use Rattle.hs_client.specs.Laws.{IsTimely}
use Rattle.hs_client.specs.Timing.{TimedPage}

abbrev pub page_in : TimedPage → PlainPage
page_in p = p.page

abbrev pub drawn_within : ℕ → List DrawnPage → List DrawnPage
drawn_within n drawn = filter (λ (d : DrawnPage). nat_lt d.sent n) drawn

drawn_none : (client : ClientId) (number : ℕ) (pages : List TimedPage) → drawn_from client number pages [] ≡ []
drawn_none client number [] = refl
drawn_none client number (p ∷ pages) = refl

-- pages that are started later are sent later
later_none : (n from to : ℕ) (pages : List TimedPage) → IsTimely from to pages → n ≤ from → pages_within n pages ≡ []
later_none n from to [] timely low = refl
later_none n from to (p ∷ pages) timely low =
    let late : n ≤ p.sent = omega (arith, timely.0, timely.1, low) in
    rw (le-ltb p.sent n late) (later_none n p.sent to pages timely.3 late)

later_drawn : (n : ℕ) (client : ClientId) (number from to : ℕ) (pages : List TimedPage) (draws : List Draw) → IsTimely from to pages → n ≤ from → drawn_within n (drawn_from client number pages draws) ≡ []
later_drawn n client number from to [] draws timely low = refl
later_drawn n client number from to (p ∷ pages) [] timely low = refl
later_drawn n client number from to (p ∷ pages) (d ∷ draws) timely low =
    let late : n ≤ p.sent = omega (arith, timely.0, timely.1, low) in
    rw (le-ltb p.sent n late) (later_drawn n client (number + 1) p.sent to pages draws timely.3 late)

front_by : (n : ℕ) (client : ClientId) (number to : ℕ) (p : TimedPage) (pages : List TimedPage) (d : Draw) (draws : List Draw) → IsTimely p.sent to pages
    → drawn_within n (drawn_from client (number + 1) pages draws) ≡ drawn_from client (number + 1) (pages_within n pages) draws → (b : Bool) → nat_lt p.sent n ≡ b
    → drawn_within n (drawn_from client number (p ∷ pages) (d ∷ draws)) ≡ drawn_from client number (pages_within n (p ∷ pages)) (d ∷ draws)
front_by n client number to p pages d draws timely rest true e =
    let first : DrawnPage = record { client = client; number = number; page = p.page; started = p.started; sent = p.sent; draw = d } in
    rw e (ap (λ (l : List DrawnPage). first ∷ l) rest)
front_by n client number to p pages d draws timely rest false e =
    let late : n ≤ p.sent = ltb-false p.sent n e in
    rw e (later_drawn n client (number + 1) p.sent to pages draws timely late ∙ sym (ap (λ (l : List TimedPage). drawn_from client number l (d ∷ draws)) (later_none n p.sent to pages timely late)))

pub front_drawn : (n : ℕ) (client : ClientId) (number from to : ℕ) (pages : List TimedPage) (draws : List Draw) → IsTimely from to pages
    → drawn_within n (drawn_from client number pages draws) ≡ drawn_from client number (pages_within n pages) draws
front_drawn n client number from to [] draws timely = refl
front_drawn n client number from to (p ∷ pages) [] timely = sym (drawn_none client number (pages_within n (p ∷ pages)))
front_drawn n client number from to (p ∷ pages) (d ∷ draws) timely =
    front_by n client number to p pages d draws timely.3 (front_drawn n client (number + 1) p.sent to pages draws timely.3) (nat_lt p.sent n) refl

-- ---- chunks

-- the chunks that are filled with the pages are those of the drawn pages
pub filled_are : (size : ℕ) (client : ClientId) (number : ℕ) (pages : List TimedPage) (draws : List Draw)
    → filled_chunks client number (map page_in pages) (map (buffer_got size) draws) ≡ flat_map (chunk_of size) (drawn_from client number pages draws)
filled_are size client number [] draws = refl
filled_are size client number (p ∷ pages) [] = refl
filled_are size client number (p ∷ pages) (noted.Got buffer stamp ∷ draws) =
    let first : Unleased = filled client number p.page (record { chunk = clear_chunk size buffer; lease = tt }) in
    ap (λ (l : List Unleased). first ∷ l) (filled_are size client (number + 1) pages draws)
filled_are size client number (p ∷ pages) (noted.Empty stamp ∷ draws) = filled_are size client (number + 1) pages draws
