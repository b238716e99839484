-- What reading bytes as a page answers: the page that they spell, or why they spell none. The reasons exclude
-- each other and the page, so there is one answer to all bytes; only the bytes of a page may lack memory.
use Rattle.std.specs.Prelude.{◌≡◌, ◌≢◌, ℕ, ◌+◌, ◌*◌, ◌<◌, ◌≤◌, List, ◌++◌, length, drop, slice_index, Result, Ok, Err, MatchResult}
use Rattle.std.specs.List.{AllByRecursion}
use Rattle.hs_base.specs.declared.limits.TheConstants.{HEADER_BYTES, UNCOUNTED_BYTES}
use Rattle.hs_words.specs.declared.page.Page.{Page}
use Rattle.hs_words.specs.declared.page.PageFault.{PageFault}
use Rattle.hs_words.specs.declared.page.PageFault.TheVariants.{Short, Used, Count, Memory}
use Rattle.hs_words.specs.Pages.{Piece, Sheet, FitsPiece, IsPage, piece_bytes, pieces_bytes, page_bytes, sheet_of}

-- the two fields that say how much there is
abbrev pub count_field : List ℕ → ℕ
count_field bytes = 256 * slice_index bytes 28 + slice_index bytes 29

abbrev pub used_field : List ℕ → ℕ
used_field bytes = 256 * slice_index bytes 30 + slice_index bytes 31

-- The bytes behind the header are so many whole pieces, and no more.
abbrev pub HasPieces : ℕ → List ℕ → Type 0
HasPieces count bytes = (pieces : List Piece) × AllByRecursion FitsPiece pieces × (length pieces ≡ count) × (bytes ≡ pieces_bytes pieces)

-- the used field and the number of bytes do not go together
pub record HasWrongUsed (bytes : List ℕ) : Type 0 where
  pub whole : HEADER_BYTES ≤ length bytes
  pub used : used_field bytes + UNCOUNTED_BYTES ≢ length bytes

-- the used field is right, and the count field is 0 or not the number of pieces
pub record HasWrongCount (bytes : List ℕ) : Type 0 where
  pub whole : HEADER_BYTES ≤ length bytes
  pub used : used_field bytes + UNCOUNTED_BYTES ≡ length bytes
  pub count : 0 < count_field bytes → HasPieces (count_field bytes) (drop HEADER_BYTES bytes) → ⊥

-- these bytes are those of this page
pub record Spells (sheet : Sheet) (bytes : List ℕ) : Type 0 where
  pub valid : IsPage sheet
  pub bytes_are : bytes ≡ page_bytes sheet

-- These bytes may be answered with this fault. Memory is asked for only where they are those of a page.
abbrev pub HasFault : List ℕ → PageFault → Type 0
HasFault bytes Short = length bytes < HEADER_BYTES
HasFault bytes Used = HasWrongUsed bytes
HasFault bytes Count = HasWrongCount bytes
HasFault bytes Memory = (sheet : Sheet) × Spells sheet bytes

-- what reading the bytes may answer
abbrev pub Answers : List ℕ → Result Page PageFault → Type 0
Answers bytes result = MatchResult result (λ page. Spells (sheet_of page) bytes) (HasFault bytes)

-- the answer is this page, unless memory is refused
abbrev pub Gives : Sheet → Result Page PageFault → Type 0
Gives sheet (Ok page) = sheet_of page ≡ sheet
Gives sheet (Err fault) = fault ≡ Memory

-- ---- parts

-- The bytes begin with a whole piece.
abbrev pub BeginsWithPiece : List ℕ → Type 0
BeginsWithPiece bytes = (piece : Piece) × (rest : List ℕ) × FitsPiece piece × (bytes ≡ piece_bytes piece ++ rest)
