-- Pages of 64 bytes: a payload of ten bytes costs 20 of the 40 that a page has for pieces, and one of thirty bytes all of them.
use Rattle.std.specs.Prelude.{◌≡◌, ℕ, List, [], ◌∷◌, map, replicate, refl}
use Rattle.hs_records.specs.Plain.{Operation, Point, End}
use Rattle.hs_client.specs.Timing.{TimedPage, point_numbers, end_numbers, timed_pages}
use Rattle.hs_client.specs.Samples.{begin, point, crumb, fire}

abbrev ten : Operation
ten = Point 7 (replicate 10 0)

abbrev starts : List Operation → List ℕ
starts ops = map (λ (p : TimedPage). p.started) (timed_pages 64 ops)

abbrev sends : List Operation → List ℕ
sends ops = map (λ (p : TimedPage). p.sent) (timed_pages 64 ops)

-- the third point starts the second page, and sends the first; the end sends the second
two_pages : (starts (begin 1 ∷ ten ∷ ten ∷ ten ∷ End ∷ []) ≡ 1 ∷ 3 ∷ []) × (sends (begin 1 ∷ ten ∷ ten ∷ ten ∷ End ∷ []) ≡ 3 ∷ 4 ∷ [])
two_pages = (refl, refl)

-- a point that fills the page does not send it
full_page_waits : (starts (begin 1 ∷ ten ∷ ten ∷ fire 5 1 1 ∷ crumb 0 ∷ End ∷ []) ≡ 1 ∷ []) × (sends (begin 1 ∷ ten ∷ ten ∷ fire 5 1 1 ∷ crumb 0 ∷ End ∷ []) ≡ 5 ∷ [])
full_page_waits = (refl, refl)

-- a point of three pieces starts three pages and sends the first two, and the next point has room on the third
one_point_many_pages : (starts (begin 1 ∷ Point 7 (replicate 70 0) ∷ point 8 ∷ End ∷ []) ≡ 1 ∷ 1 ∷ 1 ∷ []) × (sends (begin 1 ∷ Point 7 (replicate 70 0) ∷ point 8 ∷ End ∷ []) ≡ 1 ∷ 1 ∷ 3 ∷ [])
one_point_many_pages = (refl, refl)

-- a payload that begins on the rest of no page starts its own: the second point sends the page of the first
point_beside_full : (starts (begin 1 ∷ point 6 ∷ Point 7 (replicate 70 0) ∷ End ∷ []) ≡ 1 ∷ 2 ∷ 2 ∷ 2 ∷ []) × (sends (begin 1 ∷ point 6 ∷ Point 7 (replicate 70 0) ∷ End ∷ []) ≡ 2 ∷ 2 ∷ 2 ∷ 3 ∷ [])
point_beside_full = (refl, refl)

-- each segment sends its own pages, and one without points has none
segments_apart : (starts (begin 1 ∷ point 6 ∷ End ∷ begin 2 ∷ End ∷ begin 1 ∷ point 7 ∷ End ∷ []) ≡ 1 ∷ 6 ∷ []) × (sends (begin 1 ∷ point 6 ∷ End ∷ begin 2 ∷ End ∷ begin 1 ∷ point 7 ∷ End ∷ []) ≡ 2 ∷ 7 ∷ [])
segments_apart = (refl, refl)

-- points and ends by their operations, whatever stands between
numbers_of_points : (point_numbers (fire 0 1 1 ∷ begin 1 ∷ point 6 ∷ crumb 0 ∷ point 7 ∷ End ∷ []) ≡ 2 ∷ 4 ∷ []) × (end_numbers (fire 0 1 1 ∷ begin 1 ∷ point 6 ∷ crumb 0 ∷ point 7 ∷ End ∷ []) ≡ 5 ∷ [])
numbers_of_points = (refl, refl)

nothing_from_nothing : timed_pages 64 [] ≡ []
nothing_from_nothing = refl
