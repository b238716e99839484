-- What holds of pieces and pages. All pieces of a payload but the last are full. The pages of a client carry the pieces
-- of its records: each page begins with the next record, or goes on with the last one of the page before.
use Rattle.std.specs.Prelude.{◌≡◌, ◌⊎◌, ℕ, ◌+◌, ◌<◌, ◌≤◌, false, List, [], ◌∷◌, ◌++◌, length, replicate, Option, Some, option_map, slice_get, refl}
use Rattle.std.specs.List.{AllByRecursion, flat_map}
use Rattle.hs_base.specs.declared.ids.TraceId.{TraceId}
use Rattle.hs_base.specs.declared.limits.TheConstants.{MIN_SIZE}
use Rattle.hs_records.specs.Plain.{Operation, Begin, Point, End}
use Rattle.hs_records.specs.Records.{AreBracketed, Record, Piece, record_pieces, records_of}
use Rattle.hs_records.specs.Pages.{PlainPage, first_record, cost_of, page_room, pages_of}

-- ---- pieces

-- all of them but the last are full, and the last has a byte at least and fits
abbrev pub AreFullButLast : ℕ → List (List ℕ) → Type 0
AreFullButLast limit [] = Unit {0}
AreFullButLast limit (last ∷ []) = (1 ≤ length last) × (length last ≤ limit)
AreFullButLast limit (piece ∷ next ∷ pieces) = (length piece ≡ limit) × AreFullButLast limit (next ∷ pieces)

-- ---- pages

-- the numbers of these pieces rise one by one from this one
abbrev pub RiseFrom : ℕ → List Piece → Type 0
RiseFrom number [] = Unit {0}
RiseFrom number (piece ∷ pieces) = (piece.number ≡ number) × RiseFrom (number + 1) pieces

-- the trace of the record of each number
abbrev pub Traces : Type 0
Traces = ℕ → Option TraceId

abbrev pub traces_of : List Record → Traces
traces_of records number = option_map (λ r. r.trace) (slice_get records number)

-- A page has a piece of each of some records that follow one another, all of its trace.
pub record CarriesRecords (traces : Traces) (page : PlainPage) : Type 0 where
  pub some : 1 ≤ length page.pieces
  pub rises : RiseFrom (first_record page) page.pieces
  pub traced : AllByRecursion (λ (piece : Piece). traces piece.number ≡ Some page.trace) page.pieces

-- the number behind that of a page's last record
abbrev pub end_of : PlainPage → ℕ
end_of page = first_record page + length page.pieces

-- Behind a page of this trace, where this record is the next, each page begins with the next record, or goes on with
-- the last one of the page before, of the same trace.
abbrev pub AllFollow : ℕ → TraceId → List PlainPage → Type 0
AllFollow next trace [] = Unit {0}
AllFollow next trace (page ∷ pages) =
    ((first_record page ≡ next) ⊎ ((page.trace ≡ trace) × (first_record page + 1 ≡ next))) × AllFollow (end_of page) page.trace pages

-- the first of them begins with this record, and the others follow
abbrev pub AreNumberedFrom : ℕ → List PlainPage → Type 0
AreNumberedFrom number [] = Unit {0}
AreNumberedFrom number (page ∷ pages) = (first_record page ≡ number) × AllFollow (end_of page) page.trace pages

-- the number behind that of the last record, where it was this one before these pages
abbrev pub end_from : ℕ → List PlainPage → ℕ
end_from number [] = number
end_from number (page ∷ pages) = end_from (end_of page) pages

-- The pages carry the records from this number up to the last one, which have these traces.
pub record CarryRecords (traces : Traces) (number : ℕ) (pages : List PlainPage) (last : ℕ) : Type 0 where
  pub numbered : AreNumberedFrom number pages
  pub ends : end_from number pages ≡ last
  pub each : AllByRecursion (CarriesRecords traces) pages

-- ---- the pieces on the pages

-- the pieces of these records, of which the first has this number
abbrev pub pieces_of_records : ℕ → ℕ → List Record → List Piece
pieces_of_records size number [] = []
pieces_of_records size number (r ∷ records) = record_pieces size number r.moment r.payload ++ pieces_of_records size (number + 1) records

-- the pieces on pages, one page behind another
abbrev pub pieces_on : List PlainPage → List Piece
pieces_on pages = flat_map (λ (page : PlainPage). page.pieces) pages

-- The pages of a client hold the pieces of its records: all of them, each once and in their order.
abbrev pub PagesHoldThePieces : Type 0
PagesHoldThePieces =
    (size : ℕ) (operations : List Operation) → MIN_SIZE ≤ size → AreBracketed false operations
    → pieces_on (pages_of size operations) ≡ pieces_of_records size 0 (records_of operations)

-- ---- the longest runs

abbrev pub costs : List Piece → ℕ
costs [] = 0
costs (p ∷ ps) = cost_of p + costs ps

-- the runs, one behind another
abbrev pub joined : List (List Piece) → List Piece
joined [] = []
joined (run ∷ runs) = run ++ joined runs

abbrev pub front_cost : List Piece → ℕ
front_cost [] = 0
front_cost (p ∷ ps) = cost_of p

-- A run has a piece and fits a page.
pub record IsRun (size : ℕ) (run : List Piece) : Type 0 where
  pub some : 0 < length run
  pub fits : costs run ≤ page_room size

-- The first piece of the next run does not fit this one.
abbrev pub IsFull : ℕ → List Piece → List (List Piece) → Type 0
IsFull size run [] = Unit {0}
IsFull size run (next ∷ runs) = page_room size < costs run + front_cost next

-- runs that fit pages, each of which has no room for what comes next
abbrev pub AreRuns : ℕ → List (List Piece) → Type 0
AreRuns size [] = Unit {0}
AreRuns size (run ∷ runs) = IsRun size run × IsFull size run runs × AreRuns size runs

-- ---- examples

-- A record of 31 bytes has pieces on two pages of the least size, and the next record one on the second of them.
abbrev two_records : List Operation
two_records = Begin (record { 0 = 1 }) ∷ Point 7 (replicate 31 5) ∷ Point 8 [] ∷ End ∷ []

on_two_pages : pieces_on (pages_of 64 two_records)
    ≡ record { number = 0; moment = 7; payload = replicate 30 5 } ∷ record { number = 0; moment = 7; payload = 5 ∷ [] } ∷ record { number = 1; moment = 8; payload = [] } ∷ []
on_two_pages = refl

of_two_records : pieces_of_records 64 0 (records_of two_records) ≡ pieces_on (pages_of 64 two_records)
of_two_records = refl
