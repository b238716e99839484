-- What a list of added pages collects. Each page has pieces of records of one client, in the order of their numbers. A
-- record's pieces are joined as the pages that brought them were added, among the pages of its trace alone, and its moment
-- is that of its first piece. A trace's records stand in the order of client and number, and the traces in the
-- order of their first pages.
use Rattle.std.specs.Prelude.{◌≡◌, ◌≢◌, ◌⊎◌, ℕ, ◌+◌, ◌<◌, ◌≤◌, ◌^◌, ◌==◌, ◌&&◌, not, Bool, List, [], ◌∷◌, length, map, filter, All, Option, Some, None, MatchOption, option_map, slice_get, refl}
use Rattle.std.specs.List.{flat_map, find, last_or, Any, AllPairs}
use Rattle.std.proofs.Common.{inr}
use Rattle.hs_base.specs.declared.ids.TraceId.{TraceId}
use Rattle.hs_base.specs.declared.ids.ClientId.{ClientId}
use Rattle.hs_base.specs.declared.ids.RecordId.{RecordId}
use Rattle.hs_words.specs.Pages.{Piece, Sheet}

-- a piece with its record, or a record with its whole payload, without where it lies in memory
pub record Placed : Type 0 where
  pub id : RecordId
  pub moment : ℕ
  pub payload : List ℕ

abbrev pub pieces_from : ClientId → ℕ → List Piece → List Placed
pieces_from client number [] = []
pieces_from client number (piece ∷ pieces) =
    record {
      id = record { client = client; number = number };
      moment = piece.moment;
      payload = piece.payload;
    } ∷ pieces_from client (number + 1) pieces

-- the pieces of a page: each after the first begins the next record
abbrev pub page_pieces : Sheet → List Placed
page_pieces sheet = pieces_from sheet.header.client sheet.header.first sheet.pieces

-- whether a page is of this trace
abbrev pub is_of : TraceId → Sheet → Bool
is_of trace sheet = sheet.header.trace.0 == trace.0

-- the pieces of a trace, in the order in which they were added
abbrev pub pieces_of : TraceId → List Sheet → List Placed
pieces_of trace sheets = flat_map page_pieces (filter (is_of trace) sheets)

-- whether two ids are those of one record
abbrev pub is_same : RecordId → RecordId → Bool
is_same a b = a.client.node == b.client.node && a.client.number == b.client.number && a.number == b.number

-- whether a piece is one of this record
abbrev pub is_piece_of : RecordId → Placed → Bool
is_piece_of id piece = is_same id piece.id

-- a record comes before another: by node, client and number
abbrev pub Precedes : RecordId → RecordId → Type 0
Precedes a b =
    (a.client.node < b.client.node)
    ⊎ ((a.client.node ≡ b.client.node) × ((a.client.number < b.client.number) ⊎ ((a.client.number ≡ b.client.number) × (a.number < b.number))))

-- a record is joined of those of these pieces that are its own, of which there is one
pub record IsWhole (pieces : List Placed) (whole : Placed) : Type 0 where
  pub moment : option_map (λ first. first.moment) (find (is_piece_of whole.id) pieces) ≡ Some whole.moment
  pub payload : whole.payload ≡ flat_map (λ piece. piece.payload) (filter (is_piece_of whole.id) pieces)

-- each record precedes every later one
abbrev pub AreInOrder : List Placed → Type 0
AreInOrder wholes = AllPairs (λ a b. Precedes a.id b.id) wholes

-- these are all records that have one of the pieces, each once and in their order
pub record AreWholes (pieces wholes : List Placed) : Type 0 where
  pub ordered : AreInOrder wholes
  pub each : All (IsWhole pieces) wholes
  pub all : All (λ piece. Any (λ whole. whole.id ≡ piece.id) wholes) pieces

-- the traces of pages, each where its first page stands
abbrev pub first_seen : List Sheet → List TraceId
first_seen [] = []
first_seen (sheet ∷ sheets) = sheet.header.trace ∷ filter (λ trace. not (trace.0 == sheet.header.trace.0)) (first_seen sheets)

-- the traces with their records that these pages collect
pub record AreCollected (sheets : List Sheet) (traces : List (TraceId × List Placed)) : Type 0 where
  pub seen : map (λ entry. entry.0) traces ≡ first_seen sheets
  pub each : All (λ entry. AreWholes (pieces_of entry.0 sheets) entry.1) traces

-- the moments of a page's first and last piece
abbrev pub first_moment : Sheet → Option ℕ
first_moment sheet = option_map (λ piece. piece.moment) (slice_get sheet.pieces 0)

abbrev pub last_moment : Sheet → Option ℕ
last_moment sheet = option_map (λ piece. piece.moment) (last_or None sheet.pieces)

-- the number behind that of a page's last record
abbrev pub end_of : Sheet → ℕ
end_of sheet = sheet.header.first + length sheet.pieces

-- a page goes on behind another: with a later record, or with that page's last one, at its moment
abbrev pub GoesOn : Sheet → Sheet → Type 0
GoesOn before sheet = (end_of before ≤ sheet.header.first) ⊎ ((end_of before ≡ sheet.header.first + 1) × (last_moment before ≡ first_moment sheet))

-- two pages, added in this order: those of one client differ in number, and those of one trace too are in order
pub record CanPrecede (before sheet : Sheet) : Type 0 where
  pub differ : before.header.client ≡ sheet.header.client → before.header.page ≢ sheet.header.page
  pub rise : before.header.client ≡ sheet.header.client → before.header.trace ≡ sheet.header.trace → (before.header.page < sheet.header.page) × GoesOn before sheet

-- these pages can be added in this order
pub record CanBeAdded (sheets : List Sheet) : Type 0 where
  pub pairs : AllPairs CanPrecede sheets
  pub fits : All (λ sheet. end_of sheet ≤ 2 ^ 32) sheets

-- whether another page is of this one's client and trace
abbrev pub is_of_run : Sheet → Sheet → Bool
is_of_run sheet other =
    other.header.client.node == sheet.header.client.node && other.header.client.number == sheet.header.client.number && other.header.trace.0 == sheet.header.trace.0

-- A page comes next behind these, the latest first: it has a piece, no page of its client has its number, its records'
-- numbers fit, and it goes on behind the latest page of its client and trace.
pub record ComesNext (earlier : List Sheet) (sheet : Sheet) : Type 0 where
  pub some : 0 < length sheet.pieces
  pub differ : All (λ before. before.header.client ≡ sheet.header.client → before.header.page ≢ sheet.header.page) earlier
  pub fits : end_of sheet ≤ 2 ^ 32
  pub rise : MatchOption (find (is_of_run sheet) earlier) (Unit {0}) (λ before. (before.header.page < sheet.header.page) × GoesOn before sheet)

-- each of these pages, the latest first, comes next behind the earlier ones
abbrev pub ComeInTurn : List Sheet → Type 0
ComeInTurn [] = Unit {0}
ComeInTurn (sheet ∷ earlier) = ComesNext earlier sheet × ComeInTurn earlier

-- whether a page is of this client and trace
abbrev pub is_by : ClientId → TraceId → Sheet → Bool
is_by client trace sheet = sheet.header.client.node == client.node && sheet.header.client.number == client.number && is_of trace sheet

-- The same pages in another order, which keeps that of the pages of each client and trace.
abbrev pub KeepsRuns : List Sheet → List Sheet → Type 0
KeepsRuns sheets others = (client : ClientId) (trace : TraceId) → filter (is_by client trace) sheets ≡ filter (is_by client trace) others

-- Such an order, in which the traces are also first seen as before.
pub record IsReordering (sheets others : List Sheet) : Type 0 where
  pub pages : KeepsRuns sheets others
  pub seen : first_seen sheets ≡ first_seen others

-- ---- worked examples

abbrev piece_at : ℕ → List ℕ → Piece
piece_at moment payload = record { moment = moment; payload = payload }

abbrev sheet_at : (trace number page first : ℕ) → List Piece → Sheet
sheet_at trace number page first pieces =
    record {
      header = record { trace = record { 0 = trace }; client = record { node = 0; number = number }; page = page; first = first };
      pieces = pieces;
    }

abbrev whole : ℕ → ℕ → ℕ → List ℕ → Placed
whole client number moment payload = record { id = record { client = record { node = 0; number = client }; number = number }; moment = moment; payload = payload }

-- the record 1 of the client 0 has a piece on each of its two pages, between which the client 1 added one, and the trace 9 came first
abbrev four_pages : List Sheet
four_pages =
    sheet_at 9 0 0 0 (piece_at 4 (1 ∷ []) ∷ []) ∷ sheet_at 7 0 1 1 (piece_at 5 (2 ∷ 3 ∷ []) ∷ []) ∷ sheet_at 7 1 0 0 (piece_at 6 [] ∷ [])
    ∷ sheet_at 7 0 2 1 (piece_at 5 (4 ∷ []) ∷ piece_at 8 (5 ∷ []) ∷ []) ∷ []

traces_in_order : first_seen four_pages ≡ record { 0 = 9 } ∷ record { 0 = 7 } ∷ []
traces_in_order = refl

pieces_in_order : pieces_of (record { 0 = 7 }) four_pages ≡ whole 0 1 5 (2 ∷ 3 ∷ []) ∷ whole 1 0 6 [] ∷ whole 0 1 5 (4 ∷ []) ∷ whole 0 2 8 (5 ∷ []) ∷ []
pieces_in_order = refl

joined_record : IsWhole (pieces_of (record { 0 = 7 }) four_pages) (whole 0 1 5 (2 ∷ 3 ∷ 4 ∷ []))
joined_record = record { moment = refl; payload = refl }

next_record : IsWhole (pieces_of (record { 0 = 7 }) four_pages) (whole 0 2 8 (5 ∷ []))
next_record = record { moment = refl; payload = refl }

empty_record : IsWhole (pieces_of (record { 0 = 7 }) four_pages) (whole 1 0 6 [])
empty_record = record { moment = refl; payload = refl }

no_page_of_the_trace : pieces_of (record { 0 = 8 }) four_pages ≡ []
no_page_of_the_trace = refl

-- the later page of the client 0 goes on with the record 1, at its moment
goes_on : GoesOn (sheet_at 7 0 1 1 (piece_at 5 (2 ∷ 3 ∷ []) ∷ [])) (sheet_at 7 0 2 1 (piece_at 5 (4 ∷ []) ∷ piece_at 8 (5 ∷ []) ∷ []))
goes_on = inr (refl, refl)
