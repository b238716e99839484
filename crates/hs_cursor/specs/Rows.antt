-- The rows that the pages of a trace make. A row is a piece of a record: the whole record, or a part of one that takes several pages.
-- Rows come in the order of node, epoch, client, core, page, and on a page as they stand there. A row says which pages of its core, and how
-- many numbers of records, lie between it and the row before of the same core, or the core's beginning. A core numbers its pages and its
-- records over all traces, so what lies there may be of other traces: that many are missing at most, and none where no page is missing.
use Rattle.std.specs.Prelude.{◌≡◌, ℕ, ◌+◌, ◌-◌, Bool, true, false, ◌&&◌, ◌==◌, List, [], ◌∷◌, ◌++◌, length, Option, Some, None, if◌then◌else◌, refl}
use Rattle.std.specs.Option.{option_map_or}
use Rattle.hs_words.specs.Pages.{Piece, Sheet}
use Rattle.hs_traces.specs.declared.key.PageKey.{PageKey}
use Rattle.hs_traces.specs.Keys.{key_at}

pub record PlainRow : Type 0 where
  -- the page that it stands on, and the number of its record among those of the core
  pub page : PageKey
  pub number : ℕ
  pub moment : ℕ
  pub payload : List ℕ
  -- whether it goes on with the record of the row before
  pub continues : Bool
  -- how many pages of the core lie in front that are not here, and how many numbers of records
  pub missing_pages : ℕ
  pub missing_records : ℕ

-- whether one core of a client wrote both pages
abbrev pub is_same_core : PageKey → PageKey → Bool
is_same_core a b = a.node == b.node && (a.epoch == b.epoch && (a.client == b.client && a.core == b.core))

-- the last page before, with the number behind that of its last record
abbrev pub End : Type 0
End = Option (PageKey × ℕ)

-- of a page's core, the number behind that of the last page before, and behind that of the last record before
abbrev pub page_due : End → PageKey → ℕ
page_due before key = option_map_or (λ (last : PageKey × ℕ). if is_same_core last.0 key then last.0.page + 1 else 0) before 0

abbrev pub record_due : End → PageKey → ℕ
record_due before key = option_map_or (λ (last : PageKey × ℕ). if is_same_core last.0 key then last.1 else 0) before 0

-- a row with nothing missing in front
abbrev pub plain_row : PageKey → ℕ → Piece → PlainRow
plain_row key number piece = record {
  page = key;
  number = number;
  moment = piece.moment;
  payload = piece.payload;
  continues = false;
  missing_pages = 0;
  missing_records = 0;
}

-- the first row of a page
abbrev pub first_row : End → PageKey → ℕ → Piece → PlainRow
first_row before key number piece = record (plain_row key number piece) {
  continues = number + 1 == record_due before key;
  missing_pages = key.page - page_due before key;
  missing_records = number - record_due before key;
}

-- those behind it: each begins the next record
abbrev pub rows_from : PageKey → ℕ → List Piece → List PlainRow
rows_from key number [] = []
rows_from key number (piece ∷ pieces) = plain_row key number piece ∷ rows_from key (number + 1) pieces

abbrev pub page_rows : End → PageKey → ℕ → List Piece → List PlainRow
page_rows before key first [] = []
page_rows before key first (piece ∷ pieces) = first_row before key first piece ∷ rows_from key (first + 1) pieces

abbrev pub end_of : PageKey → Sheet → End
end_of key sheet = Some (key, sheet.header.first + length sheet.pieces)

-- the rows of pages behind one that ends so
abbrev pub rows_behind : End → List (PageKey × Sheet) → List PlainRow
rows_behind before [] = []
rows_behind before (page ∷ pages) = page_rows before page.0 page.1.header.first page.1.pieces ++ rows_behind (end_of page.0 page.1) pages

abbrev pub rows_of : List (PageKey × Sheet) → List PlainRow
rows_of pages = rows_behind None pages

-- ---- worked examples: pages 0, 1 and 4 of core 0 of client 2 of node 3, and page 6 of core 1

abbrev piece_at : (moment byte : ℕ) → Piece
piece_at moment byte = record { moment = moment; payload = byte ∷ [] }

abbrev key : (core page : ℕ) → PageKey
key core page = key_at 3 1 2 core page

abbrev sheet : (core page first : ℕ) → List Piece → PageKey × Sheet
sheet core page first pieces = (key core page, record { header = record { trace = record { 0 = 9 }; client = record { node = 3; number = 2 }; page = page; first = first }; pieces = pieces })

-- record 0 goes on from page 0 to page 1; records 3 and 4 are of pages 2 and 3, of this trace or of others
abbrev pages : List (PageKey × Sheet)
pages = sheet 0 0 0 (piece_at 5 1 ∷ []) ∷ sheet 0 1 0 (piece_at 5 2 ∷ piece_at 6 3 ∷ piece_at 7 4 ∷ []) ∷ sheet 0 4 5 (piece_at 9 5 ∷ []) ∷ sheet 1 6 8 (piece_at 4 6 ∷ []) ∷ []

abbrev row : (core page number moment byte : ℕ) → Bool → (missing_pages missing_records : ℕ) → PlainRow
row core page number moment byte continues missing_pages missing_records = record {
  page = key core page;
  number = number;
  moment = moment;
  payload = byte ∷ [];
  continues = continues;
  missing_pages = missing_pages;
  missing_records = missing_records;
}

in_order : rows_of pages ≡ row 0 0 0 5 1 false 0 0 ∷ row 0 1 0 5 2 true 0 0 ∷ row 0 1 1 6 3 false 0 0 ∷ row 0 1 2 7 4 false 0 0 ∷ row 0 4 5 9 5 false 2 2 ∷ row 1 6 8 4 6 false 6 8 ∷ []
in_order = refl
