-- What a buffer shows at any moment to a reader who goes by the counts that stand in it: the page whose bytes it begins
-- with, or nothing while its used field says 0. Each step of writing changes what is shown at most once: to nothing, to a
-- page without pieces, or to the page with one piece more.
use Rattle.std.specs.Prelude.{◌≡◌, ◌≢◌, ℕ, ◌+◌, ◌<◌, ◌≤◌, ◌^◌, List, [], ◌∷◌, ◌++◌, length, drop, Option, Some, None, Result, Ok, Err, MatchResult, refl}
use Rattle.std.specs.List.{AllByRecursion}
use Rattle.std.proofs.Common.{lit<, arith}
use Rattle.hs_base.specs.declared.limits.TheConstants.{HEADER_BYTES, UNCOUNTED_BYTES}
use Rattle.hs_words.specs.declared.page.Header.{Header}
use Rattle.hs_words.specs.declared.page.Page.{Page}
use Rattle.hs_words.specs.declared.page.PrefixFault.{PrefixFault}
use Rattle.hs_words.specs.declared.page.PrefixFault.TheVariants.{Short, Empty, Torn, Memory}
use Rattle.hs_words.specs.Pages.{Piece, Sheet, FitsHeader, FitsPiece, used_by, piece_bytes, page_bytes, header_bytes, counts_bytes, sheet_of}
use Rattle.hs_words.specs.Reading.{used_field}

-- It begins with the bytes of this page, which may have no piece yet. What stands behind them is no part of the page.
pub record ShowsPage (bytes : List ℕ) (sheet : Sheet) : Type 0 where
  pub header : FitsHeader sheet.header
  pub pieces : AllByRecursion FitsPiece sheet.pieces
  pub used : used_by sheet.pieces < 2 ^ 16
  pub rest : List ℕ
  pub begins : bytes ≡ page_bytes sheet ++ rest

-- It has room for a header, and its used field says 0.
pub record ShowsNothing (bytes : List ℕ) : Type 0 where
  pub whole : HEADER_BYTES ≤ length bytes
  pub none : used_field bytes ≡ 0

abbrev pub Shows : List ℕ → Option Sheet → Type 0
Shows bytes None = ShowsNothing bytes
Shows bytes (Some sheet) = ShowsPage bytes sheet

-- This piece stands behind so many used bytes.
pub record IsBehind (used : ℕ) (piece : Piece) (bytes : List ℕ) : Type 0 where
  pub fits : FitsPiece piece
  pub rest : List ℕ
  pub stands : drop (used + UNCOUNTED_BYTES) bytes ≡ piece_bytes piece ++ rest

-- ---- what reading answers

-- The used field does not say 0, and the bytes show no page.
pub record IsTorn (bytes : List ℕ) : Type 0 where
  pub whole : HEADER_BYTES ≤ length bytes
  pub used : used_field bytes ≢ 0
  pub none : (sheet : Sheet) → ShowsPage bytes sheet → ⊥

-- These bytes may be answered with this fault. Memory is asked for only where they show a page.
abbrev pub HasPrefixFault : List ℕ → PrefixFault → Type 0
HasPrefixFault bytes Short = length bytes < HEADER_BYTES
HasPrefixFault bytes Empty = ShowsNothing bytes
HasPrefixFault bytes Torn = IsTorn bytes
HasPrefixFault bytes Memory = (sheet : Sheet) × ShowsPage bytes sheet

-- what reading the bytes by their counts may answer
abbrev pub AnswersShown : List ℕ → Result Page PrefixFault → Type 0
AnswersShown bytes result = MatchResult result (λ page. ShowsPage bytes (sheet_of page)) (HasPrefixFault bytes)

-- the answer is this page, unless memory is refused
abbrev pub GivesShown : Sheet → Result Page PrefixFault → Type 0
GivesShown sheet (Ok page) = sheet_of page ≡ sheet
GivesShown sheet (Err fault) = fault ≡ Memory

-- ---- examples

abbrev example_header : Header
example_header = record { trace = record { 0 = 1 }; client = record { node = 0; number = 0 }; page = 0; first = 0 }

fits_example : FitsHeader example_header
fits_example = record { trace = lit< tt; node = lit< tt; client = lit< tt; page = lit< tt; first = lit< tt }

-- the fields of that header, before any counts
abbrev example_fields : List ℕ
example_fields = 0 ∷ 0 ∷ 0 ∷ 0 ∷ 0 ∷ 0 ∷ 0 ∷ 0 ∷ 0 ∷ 0 ∷ 0 ∷ 0 ∷ 0 ∷ 0 ∷ 0 ∷ 1 ∷ 0 ∷ 0 ∷ 0 ∷ 0 ∷ 0 ∷ 0 ∷ 0 ∷ 0 ∷ 0 ∷ 0 ∷ 0 ∷ 0 ∷ []

-- a piece of one byte at moment 5
abbrev example_piece : List ℕ
example_piece = 0 ∷ 1 ∷ 0 ∷ 0 ∷ 0 ∷ 0 ∷ 0 ∷ 0 ∷ 0 ∷ 5 ∷ 0xaa ∷ []

-- while the counts say 0, nothing is shown, whatever stands before and behind them
nothing_is_shown : ShowsNothing (example_fields ++ (0 ∷ 0 ∷ 0 ∷ 0 ∷ []) ++ example_piece)
nothing_is_shown = record { whole = omega arith; none = refl }

-- the piece stands behind 24 used bytes, and the page is still shown without it
before_it_counts : ShowsPage (example_fields ++ (0 ∷ 0 ∷ 0 ∷ 24 ∷ []) ++ example_piece) (record { header = example_header; pieces = [] })
unfolding header_bytes counts_bytes
before_it_counts = record { header = fits_example; pieces = tt; used = lit< tt; rest = example_piece; begins = refl }

behind_the_page : IsBehind 24 (record { moment = 5; payload = 0xaa ∷ [] }) (example_fields ++ (0 ∷ 0 ∷ 0 ∷ 24 ∷ []) ++ example_piece)
unfolding piece_bytes
behind_the_page = record { fits = record { moment = lit< tt; len = lit< tt; payload = (lit< tt, tt) }; rest = []; stands = refl }

-- one store of four bytes later it is shown with it; two bytes that were left behind it are no part of the page
after_it_counts : ShowsPage (example_fields ++ (0 ∷ 1 ∷ 0 ∷ 35 ∷ []) ++ example_piece ++ (7 ∷ 8 ∷ [])) (record { header = example_header; pieces = record { moment = 5; payload = 0xaa ∷ [] } ∷ [] })
unfolding header_bytes counts_bytes piece_bytes
after_it_counts =
    record { header = fits_example; pieces = (record { moment = lit< tt; len = lit< tt; payload = (lit< tt, tt) }, tt); used = lit< tt; rest = 7 ∷ 8 ∷ []; begins = refl }
