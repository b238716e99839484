-- A cursor over the pages of a trace: the page that it stands in, where the next piece begins there, and the number of that piece's record.
-- A step answers the row at the cursor, or the first one of the page behind.
use Rattle.std.specs.Prelude.{◌≡◌, ℕ, zero, suc, ◌+◌, List, [], ◌∷◌, length, Option, Some, None, option_map}
use Rattle.std.specs.Option.{option_and_then}
use Rattle.std.specs.List.Sorted.{IsStrictlySortedBy}
use Rattle.hs_base.specs.declared.limits.TheConstants.{HEADER_BYTES, PIECE_COST}
use Rattle.hs_words.specs.Pages.{Piece, Sheet}
use Rattle.hs_words.specs.Reading.{Spells}
use Rattle.hs_traces.specs.declared.key.PageKey.{PageKey}
use Rattle.hs_traces.specs.Keys.{key_cmp}
use Rattle.hs_traces.specs.Parts.{Pages, keys_of, page_with, next_page}
use Rattle.hs_cursor.specs.Rows.{PlainRow, End, plain_row, first_row}
use Rattle.hs_cursor.specs.Reading.{first_of, piece_at}

pub record PlainCursor : Type 0 where
  pub page : Option PageKey
  pub at : ℕ
  pub number : ℕ

-- before the first page
abbrev pub start : PlainCursor
start = record { page = None; at = 0; number = 0 }

-- what the cursor has behind it
abbrev pub end_at : PlainCursor → End
end_at place = option_map (λ (key : PageKey). (key, place.number)) place.page

-- behind a piece that begins at this place and is of this record
abbrev pub behind : PageKey → (at number : ℕ) → Piece → PlainCursor
behind key at number piece = record { page = Some key; at = at + (PIECE_COST + length piece.payload); number = number + 1 }

-- a row, with the place behind it
abbrev pub Found : Type 0
Found = Option (PlainRow × PlainCursor)

-- the next row of the page that the cursor stands in
abbrev pub inside : PlainCursor → PageKey → List ℕ → Found
inside place key bytes = option_map (λ piece. (plain_row key place.number piece, behind key place.at place.number piece)) (piece_at bytes place.at)

abbrev pub inside_of : PlainCursor → List ℕ → Found
inside_of place bytes = option_and_then (λ key. inside place key bytes) place.page

-- the first row of a page behind
abbrev pub entered : PlainCursor → PageKey → List ℕ → Found
entered place key bytes = option_map (λ piece. (first_row (end_at place) key (first_of bytes) piece, behind key HEADER_BYTES (first_of bytes) piece)) (piece_at bytes HEADER_BYTES)

abbrev pub row_of : Found → Option PlainRow
row_of found = option_map (λ (x : PlainRow × PlainCursor). x.0) found

-- where no row is found the cursor stays
abbrev pub place_of : Found → PlainCursor → PlainCursor
place_of None place = place
place_of (Some x) place = x.1

-- ---- steps over pages

abbrev pub or_found : Found → Found → Found
or_found None other = other
or_found (Some x) other = Some x

abbrev pub step_inside : Pages → PlainCursor → Found
step_inside pages place = option_and_then (λ key. option_and_then (inside place key) (page_with pages key)) place.page

abbrev pub step_on : Pages → PlainCursor → Found
step_on pages place = option_and_then (λ (page : PageKey × List ℕ). entered place page.0 page.1) (next_page place.page pages)

abbrev pub step : Pages → PlainCursor → Found
step pages place = or_found (step_inside pages place) (step_on pages place)

-- the row that was found, and what comes of the place behind it
abbrev pub and_then : Found → (PlainCursor → List PlainRow) → List PlainRow
and_then None more = []
and_then (Some x) more = x.0 ∷ more x.1

-- what so many steps answer, until there is no more
abbrev pub walked : Pages → ℕ → PlainCursor → List PlainRow
walked pages zero place = []
walked pages (suc steps) place = and_then (step pages place) (walked pages steps)

-- ---- what pages it goes over

-- each page in the order of its key
abbrev pub AreInOrder : Pages → Type 0
AreInOrder pages = IsStrictlySortedBy key_cmp (keys_of pages)

-- the bytes of each are those of a page
abbrev pub AreSheets : List (PageKey × Sheet) → Pages → Type 0
AreSheets [] [] = Unit {0}
AreSheets [] (page ∷ pages) = ⊥
AreSheets (sheet ∷ sheets) [] = ⊥
AreSheets (sheet ∷ sheets) (page ∷ pages) = ((sheet.0 ≡ page.0) × Spells sheet.1 page.1) × AreSheets sheets pages
