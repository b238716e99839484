-- How a page is spelled: its header, two counts, and its pieces one behind another, with the highest byte of each number
-- first. The used bytes are what the page takes of its chunk's size; the header is longer than what is counted of it.
use Rattle.std.specs.Prelude.{◌≡◌, ℕ, ◌+◌, ◌<◌, ◌^◌, List, [], ◌∷◌, ◌++◌, length, map, sum_by, refl}
use Rattle.std.specs.List.{flat_map, AllByRecursion}
use Rattle.std.specs.Int.{w16, w32, w64, w128, to_be_bytes}
use Rattle.hs_base.specs.declared.limits.TheConstants.{HEADER_COST, PIECE_COST}
use Rattle.hs_words.specs.declared.page.Header.{Header}
use Rattle.hs_words.specs.declared.page.Point.{Point}
use Rattle.hs_words.specs.declared.page.Page.{Page}

-- a point without where it lies in memory
pub record Piece : Type 0 where
  pub moment : ℕ
  pub payload : List ℕ

-- a page without where it lies in memory
pub record Sheet : Type 0 where
  pub header : Header
  pub pieces : List Piece

abbrev pub piece_of : Point → Piece
piece_of point = record { moment = point.moment; payload = point.payload.items }

abbrev pub sheet_of : Page → Sheet
sheet_of page = record { header = page.header; pieces = map piece_of page.points.items }

-- how many bytes a piece takes
abbrev pub cost_of : Piece → ℕ
cost_of piece = PIECE_COST + length piece.payload

-- the used bytes of a page with these pieces
abbrev pub used_by : List Piece → ℕ
used_by pieces = HEADER_COST + sum_by cost_of pieces

-- the page with a piece more at its end
abbrev pub with_piece : Sheet → Piece → Sheet
with_piece sheet piece = record { header = sheet.header; pieces = sheet.pieces ++ piece ∷ [] }

-- a piece on a page: the length of its payload, its moment, its payload
unfoldable pub piece_bytes : Piece → List ℕ
piece_bytes piece = to_be_bytes w16 (length piece.payload) ++ to_be_bytes w64 piece.moment ++ piece.payload

-- the pieces on a page, one behind another
abbrev pub pieces_bytes : List Piece → List ℕ
pieces_bytes pieces = flat_map piece_bytes pieces

-- the fields of a header, before the two counts
unfoldable pub header_bytes : Header → List ℕ
header_bytes h =
    to_be_bytes w128 h.trace.0 ++ to_be_bytes w16 h.client.node ++ to_be_bytes w16 h.client.number
    ++ to_be_bytes w32 h.page ++ to_be_bytes w32 h.first

-- the two counts: how many pieces there are, and how many bytes are used
unfoldable pub counts_bytes : ℕ → ℕ → List ℕ
counts_bytes count used = to_be_bytes w16 count ++ to_be_bytes w16 used

-- all bytes of a page
abbrev pub page_bytes : Sheet → List ℕ
page_bytes sheet = header_bytes sheet.header ++ counts_bytes (length sheet.pieces) (used_by sheet.pieces) ++ pieces_bytes sheet.pieces

-- A header whose numbers fit their fields.
pub record FitsHeader (h : Header) : Type 0 where
  pub trace : h.trace.0 < 2 ^ 128
  pub node : h.client.node < 2 ^ 16
  pub client : h.client.number < 2 ^ 16
  pub page : h.page < 2 ^ 32
  pub first : h.first < 2 ^ 32

-- A piece whose moment and whose payload's length fit their fields, and whose payload is bytes.
pub record FitsPiece (piece : Piece) : Type 0 where
  pub moment : piece.moment < 2 ^ 64
  pub len : length piece.payload < 2 ^ 16
  pub payload : AllByRecursion (λ byte. byte < 256) piece.payload

-- What has a spelling: the numbers fit their fields, the used bytes fit theirs, and there is a piece.
pub record IsPage (sheet : Sheet) : Type 0 where
  pub header : FitsHeader sheet.header
  pub pieces : AllByRecursion FitsPiece sheet.pieces
  pub used : used_by sheet.pieces < 2 ^ 16
  pub some : 0 < length sheet.pieces

-- ---- examples

abbrev example_header : Header
example_header = record { trace = record { 0 = 1 }; client = record { node = 0; number = 0 }; page = 0; first = 0 }

abbrev example : Sheet
example = record { header = example_header; pieces = record { moment = 5; payload = 0xaa ∷ [] } ∷ [] }

-- a page with one piece of one byte has 35 used bytes
used_of_example : used_by example.pieces ≡ 35
used_of_example = refl

-- and these 43 bytes
bytes_of_example : page_bytes example
    ≡ 0 ∷ 0 ∷ 0 ∷ 0 ∷ 0 ∷ 0 ∷ 0 ∷ 0 ∷ 0 ∷ 0 ∷ 0 ∷ 0 ∷ 0 ∷ 0 ∷ 0 ∷ 1 ∷ 0 ∷ 0 ∷ 0 ∷ 0 ∷ 0 ∷ 0 ∷ 0 ∷ 0 ∷ 0 ∷ 0 ∷ 0 ∷ 0 ∷ 0 ∷ 1 ∷ 0 ∷ 35
    ∷ 0 ∷ 1 ∷ 0 ∷ 0 ∷ 0 ∷ 0 ∷ 0 ∷ 0 ∷ 0 ∷ 5 ∷ 0xaa ∷ []
unfolding header_bytes counts_bytes piece_bytes
bytes_of_example = refl

-- the highest byte of each number comes first
bytes_of_fields : header_bytes (record { trace = record { 0 = 0x0102 }; client = record { node = 0x0304; number = 0x0506 }; page = 0x0708090a; first = 0x0b0c0d0e })
    ≡ 0 ∷ 0 ∷ 0 ∷ 0 ∷ 0 ∷ 0 ∷ 0 ∷ 0 ∷ 0 ∷ 0 ∷ 0 ∷ 0 ∷ 0 ∷ 0 ∷ 1 ∷ 2 ∷ 3 ∷ 4 ∷ 5 ∷ 6 ∷ 7 ∷ 8 ∷ 9 ∷ 10 ∷ 11 ∷ 12 ∷ 13 ∷ 14 ∷ []
unfolding header_bytes
bytes_of_fields = refl

-- an empty payload costs 10
bytes_of_empty : piece_bytes (record { moment = 0x0100; payload = [] }) ≡ 0 ∷ 0 ∷ 0 ∷ 0 ∷ 0 ∷ 0 ∷ 0 ∷ 0 ∷ 1 ∷ 0 ∷ []
unfolding piece_bytes
bytes_of_empty = refl

-- two pieces stand in their order
bytes_of_two : pieces_bytes (record { moment = 1; payload = 7 ∷ 8 ∷ [] } ∷ record { moment = 2; payload = [] } ∷ [])
    ≡ 0 ∷ 2 ∷ 0 ∷ 0 ∷ 0 ∷ 0 ∷ 0 ∷ 0 ∷ 0 ∷ 1 ∷ 7 ∷ 8 ∷ 0 ∷ 0 ∷ 0 ∷ 0 ∷ 0 ∷ 0 ∷ 0 ∷ 0 ∷ 0 ∷ 2 ∷ []
unfolding piece_bytes
bytes_of_two = refl

-- three pieces of 10 bytes fill 84 of a page's bytes
used_by_three : used_by (record { moment = 1; payload = 1 ∷ 2 ∷ 3 ∷ 4 ∷ 5 ∷ 6 ∷ 7 ∷ 8 ∷ 9 ∷ 10 ∷ [] } ∷ record { moment = 1; payload = 1 ∷ 2 ∷ 3 ∷ 4 ∷ 5 ∷ 6 ∷ 7 ∷ 8 ∷ 9 ∷ 10 ∷ [] } ∷ []) ≡ 64
used_by_three = refl
