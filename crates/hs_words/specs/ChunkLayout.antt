-- How a page lies in the memory of its chunk: from the front, whatever is left behind it of earlier pages. That memory
-- is the chunk's size and the part of a header that the size leaves out. The memory of a clear chunk shows nothing.
use Rattle.std.specs.Prelude.{◌≡◌, ℕ, zero, suc, ◌+◌, ◌-◌, ◌≤◌, List, [], ◌∷◌, length, take, drop, MatchOption}
use Rattle.std.specs.Option.{option_map}
use Rattle.std.specs.List.{AllByRecursion}
use Rattle.std.specs.Int.{w16, w64, from_be_bytes}
use Rattle.hs_base.specs.declared.limits.TheConstants.{MIN_SIZE, MAX_SIZE, HEADER_BYTES, UNCOUNTED_BYTES, PIECE_COST}
use Rattle.hs_words.specs.declared.layout.Front.{Front}
use Rattle.hs_words.specs.declared.chunk.Chunk.TheInside.{Inside}
use Rattle.hs_words.specs.Pages.{Piece, Sheet, FitsHeader, FitsPiece, used_by, page_bytes}
use Rattle.hs_words.specs.Chunks.{Contents}
use Rattle.hs_words.specs.Shown.{ShowsNothing}

-- the pieces that so many records are, from the front
unfoldable pub pieces_in : ℕ → List ℕ → List Piece
pieces_in zero bytes = []
pieces_in (suc count) bytes =
    let len = from_be_bytes w16 (take 2 bytes) in
    let rest = drop PIECE_COST bytes in
    record { moment = from_be_bytes w64 (take 8 (drop 2 bytes)); payload = take len rest } ∷ pieces_in count (drop len rest)

-- the page that stands in a buffer
abbrev pub sheet_in : List ℕ → Front → Sheet
sheet_in bytes page = record { header = page.header; pieces = pieces_in page.count (drop HEADER_BYTES bytes) }

abbrev pub contents_of : Inside → Contents
contents_of a = record { number = a.number; size = length a.bytes.items - UNCOUNTED_BYTES; page = option_map (sheet_in a.bytes.items) a.page }

-- The buffer begins with the page's bytes, which it has room for.
pub record Holds (bytes : List ℕ) (page : Front) : Type 0 where
  pub header : FitsHeader page.header
  pub pieces : AllByRecursion FitsPiece (sheet_in bytes page).pieces
  pub used : page.used ≡ used_by (sheet_in bytes page).pieces
  pub room : page.used + UNCOUNTED_BYTES ≤ length bytes
  pub spelled : take (page.used + UNCOUNTED_BYTES) bytes ≡ page_bytes (sheet_in bytes page)

pub record IsChunk (a : Inside) : Type 0 where
  pub least : MIN_SIZE + UNCOUNTED_BYTES ≤ length a.bytes.items
  pub most : length a.bytes.items ≤ MAX_SIZE + UNCOUNTED_BYTES
  pub page : MatchOption a.page (ShowsNothing a.bytes.items) (Holds a.bytes.items)
