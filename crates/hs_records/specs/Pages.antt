-- How a segment is cut into pages, from its front: the next page takes the longest front of the pieces that are left for whose
-- costs it has room. A client's pages, one segment's behind the other's, have the numbers 0, 1, 2 and on.
use Rattle.std.specs.Prelude.{◌≡◌, ℕ, zero, suc, ◌+◌, ◌-◌, List, [], ◌∷◌, length, take, drop, map, replicate, refl}
use Rattle.std.specs.List.{flat_map}
use Rattle.hs_base.specs.declared.ids.TraceId.{TraceId}
use Rattle.hs_base.specs.declared.limits.TheConstants.{HEADER_COST, PIECE_COST}
use Rattle.hs_records.specs.Fronts.{count_within}
use Rattle.hs_records.specs.Plain.{Operation, Begin, Point, End}
use Rattle.hs_records.specs.Records.{Piece, Segment, segments_of}

-- a page: its trace and its pieces, at least one
pub record PlainPage : Type 0 where
  pub trace : TraceId
  pub pieces : List Piece

-- what a piece takes of a page: its bytes, and some for its length and moment
abbrev pub cost_of : Piece → ℕ
cost_of piece = PIECE_COST + length piece.payload

-- the room of a page for the costs of its pieces
abbrev pub page_room : ℕ → ℕ
page_room size = size - HEADER_COST

-- how many of these pieces the next page takes
abbrev pub fits : ℕ → List Piece → ℕ
fits size pieces = count_within (page_room size) (map cost_of pieces)

-- the pieces in runs, each of them the longest that fits a page; a page takes at least one piece, so that there are at
-- most as many as the first number says
abbrev pub runs_within : ℕ → ℕ → List Piece → List (List Piece)
runs_within zero size pieces = []
runs_within (suc most) size [] = []
runs_within (suc most) size (piece ∷ pieces) = take (fits size (piece ∷ pieces)) (piece ∷ pieces) ∷ runs_within most size (drop (fits size (piece ∷ pieces)) (piece ∷ pieces))

abbrev pub runs_of : ℕ → List Piece → List (List Piece)
runs_of size pieces = runs_within (length pieces) size pieces

abbrev pub segment_pages : ℕ → Segment → List PlainPage
segment_pages size segment = map (λ pieces. record { trace = segment.trace; pieces = pieces }) (runs_of size segment.pieces)

abbrev pub pages_of : ℕ → List Operation → List PlainPage
pages_of size ops = flat_map (segment_pages size) (segments_of size ops)

-- the number of the record to which a page's first piece belongs
abbrev pub first_record : PlainPage → ℕ
first_record page = first_number page.pieces
  where
    first_number : List Piece → ℕ
    first_number [] = 0
    first_number (piece ∷ pieces) = piece.number

-- worked examples, at the least size: a page has room for costs of 40
-- a payload of 30 bytes fills a page
filled_exactly : map (λ page. length page.pieces) (pages_of 64 (Begin (record { 0 = 1 }) ∷ Point 7 (replicate 30 5) ∷ Point 8 [] ∷ End ∷ [])) ≡ 1 ∷ 1 ∷ []
filled_exactly = refl

-- one of 31 bytes has two pages, and the second has room for the next record
crosses_pages : map first_record (pages_of 64 (Begin (record { 0 = 1 }) ∷ Point 7 (replicate 31 5) ∷ Point 8 [] ∷ End ∷ [])) ≡ 0 ∷ 0 ∷ []
crosses_pages = refl

-- a segment starts a page of its own, and one without points has none
page_for_each_segment : map first_record (pages_of 64 (Begin (record { 0 = 1 }) ∷ Point 7 [] ∷ End ∷ Begin (record { 0 = 1 }) ∷ End ∷ Begin (record { 0 = 2 }) ∷ Point 8 [] ∷ End ∷ [])) ≡ 0 ∷ 1 ∷ []
page_for_each_segment = refl
