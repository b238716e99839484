-- How the pieces of a segment are numbered. Each piece has the next number, or that of the piece before it, which then
-- fills a page. Each fits a page of its own, and its number is that of a record with the segment's trace.
use Rattle.std.proofs.Common.{◌≡◌, ◌⊎◌, ℕ, zero, suc, ◌+◌, ◌<◌, ◌≤◌, Bool, true, false, nat_le, List, [], ◌∷◌, ◌++◌, map, flat_map, length, take, drop, Option, Some, option_map, refl, ap, ◌∙◌, subst, arith, length-drop, true≢false, inl, inr}
use Rattle.std.proofs.lemmas.Bool.{leb-true}
use Rattle.std.proofs.lemmas.List.{length-map, length-take-le}
use Rattle.std.proofs.lemmas.Bool.Decides.{nat_tests}
use Rattle.std.specs.List.{AllByRecursion, slice_get}
use Rattle.hs_base.specs.declared.limits.TheConstants.{MIN_SIZE}
use Rattle.hs_base.specs.declared.ids.TraceId.{TraceId}
use Rattle.hs_records.specs.Plain.{Operation, Begin, Point, Crumb, End, Fire, Sample}
use Rattle.hs_records.specs.Records.{Record, Piece, AreBracketed, numbered_from, record_at, piece_limit, cut_within, record_pieces, pieces_until_end}
use Rattle.hs_records.specs.Pages.{cost_of, page_room}
use Rattle.hs_records.specs.Laws.{Traces}
use Rattle.hs_records.proofs.Cuts.{counted}

-- the records of operations that find this trace open, the first of which is an operation of this number
abbrev pub records_from : ℕ → Option TraceId → List Operation → List Record
records_from place trace ops = flat_map record_at (numbered_from place trace ops)

-- a piece has the next number, or that of the one before it, which fills a page
abbrev pub IsNext : ℕ → Piece → Piece → Type 0
IsNext size before piece = (piece.number ≡ before.number + 1) ⊎ ((piece.number ≡ before.number) × (cost_of before ≡ page_room size))

-- the pieces behind a piece
abbrev pub Goes : ℕ → Piece → List Piece → Type 0
Goes size before [] = Unit {0}
Goes size before (piece ∷ pieces) = IsNext size before piece × Goes size piece pieces

-- the pieces from this number on
abbrev pub GoesFrom : ℕ → ℕ → List Piece → Type 0
GoesFrom size number [] = Unit {0}
GoesFrom size number (piece ∷ pieces) = (piece.number ≡ number) × Goes size piece pieces

-- the number behind that of the last piece
abbrev pub behind : ℕ → List Piece → ℕ
behind next [] = next
behind next (piece ∷ pieces) = behind (piece.number + 1) pieces

-- the records from this number on have these traces
abbrev pub Agree : Traces → ℕ → List Record → Type 0
Agree traces number records = (k : ℕ) → traces (number + k) ≡ option_map (λ r. r.trace) (slice_get records k)

-- a piece fits a page, and its record has this trace
pub record IsPiece (size : ℕ) (traces : Traces) (trace : TraceId) (piece : Piece) : Type 0 where
  pub narrow : cost_of piece ≤ page_room size
  pub traced : traces piece.number ≡ Some trace

pub record AreWell (size : ℕ) (traces : Traces) (trace : TraceId) (number : ℕ) (pieces : List Piece) (last : ℕ) : Type 0 where
  pub goes : GoesFrom size number pieces
  pub ends : behind number pieces ≡ last
  pub each : AllByRecursion (IsPiece size traces trace) pieces

-- ---- the pieces of a record

-- what follows the last piece of a record begins with the next one
goes_on : (size : ℕ) (piece : Piece) (more : List Piece) → GoesFrom size (piece.number + 1) more → Goes size piece more
goes_on size piece [] goes = tt
goes_on size piece (next ∷ more) goes = (inl goes.0, goes.1)

abbrev piece_of : (number moment : ℕ) → List ℕ → Piece
piece_of number moment payload = record { number = number; moment = moment; payload = payload }

-- a record's last piece, and what follows
one_well : (size number moment : ℕ) (payload : List ℕ) (traces : Traces) (trace : TraceId) (more : List Piece) (last : ℕ) → MIN_SIZE ≤ size → length payload ≤ piece_limit size
    → traces number ≡ Some trace → AreWell size traces trace (number + 1) more last → AreWell size traces trace number (piece_of number moment payload ∷ more) last
one_well size number moment payload traces trace more last wide short traced later =
    record {
      goes = (refl, goes_on size (piece_of number moment payload) more later.goes);
      ends = later.ends;
      each = (record { narrow = omega arith; traced = traced }, later.each);
    }

-- a full piece, and the pieces behind it, some of which are of the same record
full_well : (size number moment : ℕ) (payload : List ℕ) (traces : Traces) (trace : TraceId) (pieces more : List Piece) (last : ℕ) → MIN_SIZE ≤ size → length payload ≡ piece_limit size
    → traces number ≡ Some trace → 1 ≤ length pieces → AreWell size traces trace number (pieces ++ more) last
    → AreWell size traces trace number (piece_of number moment payload ∷ pieces ++ more) last
full_well size number moment payload traces trace [] more last wide full traced some later = absurd (omega arith)
full_well size number moment payload traces trace (next ∷ pieces) more last wide full traced some later =
    record {
      goes = (refl, (inr (later.goes.0, omega arith), later.goes.1));
      ends = later.ends;
      each = (record { narrow = omega arith; traced = traced }, later.each);
    }

-- the pieces of what is cut at most so often, and what follows
cut_well : (most size number moment : ℕ) (payload : List ℕ) (traces : Traces) (trace : TraceId) (more : List Piece) (last : ℕ) → MIN_SIZE ≤ size → length payload ≤ most
    → traces number ≡ Some trace → AreWell size traces trace (number + 1) more last
    → AreWell size traces trace number (map (piece_of number moment) (cut_within most (piece_limit size) payload) ++ more) last
cut_well zero size number moment payload traces trace more last wide few traced later = one_well size number moment payload traces trace more last wide (omega arith) traced later
cut_well (suc most) size number moment payload traces trace more last wide few traced later =
    step (λ less. cut_well most size number moment (drop (piece_limit size) payload) traces trace more last wide less traced later) (nat_le (length payload) (piece_limit size)) refl
  where
    step : (length (drop (piece_limit size) payload) ≤ most
        → AreWell size traces trace number (map (piece_of number moment) (cut_within most (piece_limit size) (drop (piece_limit size) payload)) ++ more) last)
        → (fits : Bool) → nat_le (length payload) (piece_limit size) ≡ fits
        → AreWell size traces trace number
        (map (piece_of number moment)
        (elim fits as (λ _. List (List ℕ)) [ true ↦ payload ∷ [] | false ↦ take (piece_limit size) payload ∷ cut_within most (piece_limit size) (drop (piece_limit size) payload) ])
        ++ more)
        last
    step rest true e = one_well size number moment payload traces trace more last wide (leb-true (length payload) (piece_limit size) e) traced later
    step rest false e =
        let long : piece_limit size < length payload = grind (arith, nat_tests) in
        let less = length-drop (piece_limit size) payload in
        full_well size number moment (take (piece_limit size) payload) traces trace (map (piece_of number moment) (cut_within most (piece_limit size) (drop (piece_limit size) payload))) more last wide
        (length-take-le (piece_limit size) payload (omega arith))
        traced
        (omega (arith, length-map (cut_within most (piece_limit size) (drop (piece_limit size) payload)) (piece_of number moment), counted most (piece_limit size) (drop (piece_limit size) payload)))
        (rest (omega arith))

-- all pieces of a record, and what follows
record_well : (size number moment : ℕ) (payload : List ℕ) (traces : Traces) (trace : TraceId) (more : List Piece) (last : ℕ) → MIN_SIZE ≤ size → traces number ≡ Some trace
    → AreWell size traces trace (number + 1) more last → AreWell size traces trace number (record_pieces size number moment payload ++ more) last
record_well size number moment payload traces trace more last wide traced later =
    cut_well (length payload) size number moment payload traces trace more last wide (omega arith) traced later

-- ---- the pieces of a segment

-- how many points stand before the end
abbrev pub points : List Operation → ℕ
points [] = 0
points (End ∷ ops) = 0
points (Point moment payload ∷ ops) = points ops + 1
points (operation ∷ ops) = points ops

-- the traces of the first record and of those behind it
pub agree-head : (traces : Traces) (number : ℕ) (r : Record) (records : List Record) → Agree traces number (r ∷ records) → traces number ≡ Some r.trace
agree-head traces number r records agree = let here : number ≡ number + 0 = omega arith in ap traces here ∙ agree 0

pub agree-tail : (traces : Traces) (number : ℕ) (r : Record) (records : List Record) → Agree traces number (r ∷ records) → Agree traces (number + 1) records
agree-tail traces number r records agree k = let there : number + 1 + k ≡ number + suc k = omega arith in ap traces there ∙ agree (suc k)

pub segment_well : (size : ℕ) (traces : Traces) (trace : TraceId) (place number : ℕ) (ops : List Operation) → MIN_SIZE ≤ size → AreBracketed true ops
    → Agree traces number (records_from place (Some trace) ops) → AreWell size traces trace number (pieces_until_end size number ops) (number + points ops)
segment_well size traces trace place number [] wide well agree = absurd (true≢false well)
segment_well size traces trace place number (End ∷ ops) wide well agree = record { goes = tt; ends = omega arith; each = tt }
segment_well size traces trace place number (Begin next ∷ ops) wide well agree = absurd (true≢false well.0)
segment_well size traces trace place number (Crumb node ∷ ops) wide well agree = segment_well size traces trace (place + 1) number ops wide well.1 agree
segment_well size traces trace place number (Fire trigger ∷ ops) wide well agree = segment_well size traces trace (place + 1) number ops wide well agree
segment_well size traces trace place number (Sample moment auto value ∷ ops) wide well agree = segment_well size traces trace (place + 1) number ops wide well.1 agree
segment_well size traces trace place number (Point moment payload ∷ ops) wide well agree =
    let r : Record = record { trace = trace; moment = moment; payload = payload } in
    let rest = records_from (place + 1) (Some trace) ops in
    let all : number + 1 + points ops ≡ number + (points ops + 1) = omega arith in
    let later = segment_well size traces trace (place + 1) (number + 1) ops wide well.1 (agree-tail traces number r rest agree) in
    let later_all = subst (λ n. AreWell size traces trace (number + 1) (pieces_until_end size (number + 1) ops) n) all later in
    record_well size number moment payload traces trace (pieces_until_end size (number + 1) ops) (number + (points ops + 1)) wide (agree-head traces number r rest agree) later_all
