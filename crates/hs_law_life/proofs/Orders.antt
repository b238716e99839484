-- Operations that have their places, with one more, and those of a trace that is still open, as if it ended there.
use Rattle.std.proofs.Common.{◌≡◌, ℕ, ◌+◌, ◌≤◌, Bool, true, false, List, [], ◌∷◌, ◌++◌, Option, Some, None, refl, sym, ap, ap₂, ◌∙◌, flat_map}
use Rattle.std.specs.Prelude.{is_some, IsSome}
use Rattle.hs_base.specs.declared.ids.TraceId.{TraceId}
use Rattle.hs_base.specs.declared.limits.TheConstants.{MIN_SIZE}
use Rattle.hs_records.specs.Plain.{Operation, Begin, Point, Crumb, End, Fire, Sample}
use Rattle.hs_records.specs.Records.{Piece, Record, AreBracketed, open_behind, numbered_from, record_at, records_of, record_pieces, pieces_until_end, segments_from}
use Rattle.hs_records.specs.Pages.{segment_pages, pages_of}
use Rattle.hs_records.specs.Laws.{pieces_on, pieces_of_records, PagesHoldThePieces}
use Rattle.hs_client.specs.OneMore.{open_after}
use Rattle.hs_law_life.specs.ClientLives.{MayDo, AreBegun}

-- ---- one operation more

one_begun : (trace : Option TraceId) (is_open : Bool) (op : Operation) → is_open ≡ is_some trace → MayDo op trace → AreBegun is_open (op ∷ [])
one_begun trace b (Begin next) same may = (same ∙ ap is_some may, tt)
one_begun trace b (Point moment payload) same may = (same ∙ may, tt)
one_begun trace b (Crumb node) same may = (same ∙ may, tt)
one_begun trace b End same may = (same ∙ may, tt)
one_begun trace b (Fire trigger) same may = tt
one_begun trace b (Sample moment auto value) same may = (same ∙ may, tt)

pub more_begun : (trace : Option TraceId) (is_open : Bool) (ops : List Operation) (op : Operation) → is_open ≡ is_some trace → AreBegun is_open ops → MayDo op (open_after trace ops) → AreBegun is_open (ops ++ op ∷ [])
more_begun trace b [] op same h may = one_begun trace b op same may
more_begun trace b (Begin next ∷ ops) op same h may = (h.0, more_begun (Some next) true ops op refl h.1 may)
more_begun trace b (Point moment payload ∷ ops) op same h may = (h.0, more_begun trace b ops op same h.1 may)
more_begun trace b (Crumb node ∷ ops) op same h may = (h.0, more_begun trace b ops op same h.1 may)
more_begun trace b (End ∷ ops) op same h may = (h.0, more_begun None false ops op refl h.1 may)
more_begun trace b (Fire trigger ∷ ops) op same h may = more_begun trace b ops op same h may
more_begun trace b (Sample moment auto value ∷ ops) op same h may = (h.0, more_begun trace b ops op same h.1 may)

-- ---- as if the last trace ended

closed_begun : (trace : Option TraceId) (is_open : Bool) (ops : List Operation) → is_open ≡ is_some trace → AreBegun is_open ops → open_after trace ops ≡ None → AreBracketed is_open ops
closed_begun trace b [] same h none = same ∙ ap is_some none
closed_begun trace b (Begin next ∷ ops) same h none = (h.0, closed_begun (Some next) true ops refl h.1 none)
closed_begun trace b (Point moment payload ∷ ops) same h none = (h.0, closed_begun trace b ops same h.1 none)
closed_begun trace b (Crumb node ∷ ops) same h none = (h.0, closed_begun trace b ops same h.1 none)
closed_begun trace b (End ∷ ops) same h none = (h.0, closed_begun None false ops refl h.1 none)
closed_begun trace b (Fire trigger ∷ ops) same h none = closed_begun trace b ops same h none
closed_begun trace b (Sample moment auto value ∷ ops) same h none = (h.0, closed_begun trace b ops same h.1 none)

abbrev ended : List Operation → List Operation
ended ops = ops ++ End ∷ []

open_begun : (trace : Option TraceId) (is_open : Bool) (ops : List Operation) → is_open ≡ is_some trace → AreBegun is_open ops → IsSome (open_after trace ops) → AreBracketed is_open (ended ops)
open_begun trace b [] same h some = (same ∙ some, refl)
open_begun trace b (Begin next ∷ ops) same h some = (h.0, open_begun (Some next) true ops refl h.1 some)
open_begun trace b (Point moment payload ∷ ops) same h some = (h.0, open_begun trace b ops same h.1 some)
open_begun trace b (Crumb node ∷ ops) same h some = (h.0, open_begun trace b ops same h.1 some)
open_begun trace b (End ∷ ops) same h some = (h.0, open_begun None false ops refl h.1 some)
open_begun trace b (Fire trigger ∷ ops) same h some = open_begun trace b ops same h some
open_begun trace b (Sample moment auto value ∷ ops) same h some = (h.0, open_begun trace b ops same h.1 some)

pieces_ended : (size number : ℕ) (ops : List Operation) → pieces_until_end size number (ended ops) ≡ pieces_until_end size number ops
pieces_ended size number [] = refl
pieces_ended size number (Begin next ∷ ops) = pieces_ended size number ops
pieces_ended size number (Point moment payload ∷ ops) = ap (λ (l : List Piece). record_pieces size number moment payload ++ l) (pieces_ended size (number + 1) ops)
pieces_ended size number (Crumb node ∷ ops) = pieces_ended size number ops
pieces_ended size number (End ∷ ops) = refl
pieces_ended size number (Fire trigger ∷ ops) = pieces_ended size number ops
pieces_ended size number (Sample moment auto value ∷ ops) = pieces_ended size number ops

segments_ended : (size number : ℕ) (ops : List Operation) → segments_from size number (ended ops) ≡ segments_from size number ops
segments_ended size number [] = refl
segments_ended size number (Begin next ∷ ops) = ap₂ (λ (pieces : List Piece) (l : List _). record { trace = next; pieces = pieces } ∷ l) (pieces_ended size number ops) (segments_ended size number ops)
segments_ended size number (Point moment payload ∷ ops) = segments_ended size (number + 1) ops
segments_ended size number (Crumb node ∷ ops) = segments_ended size number ops
segments_ended size number (End ∷ ops) = segments_ended size number ops
segments_ended size number (Fire trigger ∷ ops) = segments_ended size number ops
segments_ended size number (Sample moment auto value ∷ ops) = segments_ended size number ops

records_ended : (number : ℕ) (trace : Option TraceId) (ops : List Operation) → flat_map record_at (numbered_from number trace (ended ops)) ≡ flat_map record_at (numbered_from number trace ops)
records_ended number None [] = refl
records_ended number (Some trace) [] = refl
records_ended number trace (op ∷ ops) =
    ap (λ (l : List Record). record_at (record { number = number; trace = trace; operation = op }) ++ l) (records_ended (number + 1) (open_behind trace op) ops)

-- ---- the pieces

abbrev Stand : ℕ → List Operation → Type 0
Stand size ops = pieces_on (pages_of size ops) ≡ pieces_of_records size 0 (records_of ops)

stand_by : PagesHoldThePieces → (size : ℕ) (ops : List Operation) (trace : Option TraceId) → MIN_SIZE ≤ size → AreBegun false ops → open_after None ops ≡ trace → Stand size ops
stand_by hold size ops None least begun is = hold size ops least (closed_begun None false ops refl begun is)
stand_by hold size ops (Some trace) least begun is =
    ap (λ (l : List _). pieces_on (flat_map (segment_pages size) l)) (sym (segments_ended size 0 ops))
    ∙ hold size (ended ops) least (open_begun None false ops refl begun (ap is_some is))
    ∙ ap (pieces_of_records size 0) (records_ended 0 None ops)

pub pieces_stand : PagesHoldThePieces → (size : ℕ) (ops : List Operation) → MIN_SIZE ≤ size → AreBegun false ops → Stand size ops
pieces_stand hold size ops least begun = stand_by hold size ops (open_after None ops) least begun refl
