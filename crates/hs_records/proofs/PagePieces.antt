-- The pages of a client hold the pieces of its records. A segment's runs, one behind another, are its pieces, since each takes a
-- piece at least; and the pieces up to an end are those of the records of the points that stand there.
use Rattle.std.proofs.Common.{◌≡◌, ℕ, zero, suc, ◌+◌, ◌≤◌, true, false, cond, nat_le, List, [], ◌∷◌, ◌++◌, map, flat_map, length, take, drop, Some, None, refl, sym, ap, ◌∙◌, arith, length-drop, one-add, true≢false, take-append-drop, append_assoc}
use Rattle.std.proofs.lemmas.Bool.{le-leb}
use Rattle.std.specs.List.{AllByRecursion}
use Rattle.hs_base.specs.declared.limits.TheConstants.{MIN_SIZE}
use Rattle.hs_base.specs.declared.ids.TraceId.{TraceId}
use Rattle.hs_records.specs.Plain.{Operation, Begin, Point, Crumb, End, Fire, Sample}
use Rattle.hs_records.specs.Records.{Record, Piece, Segment, AreBracketed, records_of, record_pieces, pieces_until_end, segments_from}
use Rattle.hs_records.specs.Fronts.{count_beside}
use Rattle.hs_records.specs.Pages.{PlainPage, cost_of, page_room, fits, runs_within, segment_pages}
use Rattle.hs_records.specs.Laws.{Traces, traces_of, joined, pieces_of_records, pieces_on, PagesHoldThePieces}
use Rattle.hs_records.proofs.PieceNumbers.{records_from, Agree, IsPiece, agree-tail, segment_well}
use Rattle.hs_records.proofs.PageNumbers.{all-parted}

-- ---- runs

abbrev IsNarrow : ℕ → Piece → Type 0
IsNarrow size piece = cost_of piece ≤ page_room size

all-narrow : (size : ℕ) (traces : Traces) (trace : TraceId) (pieces : List Piece) → AllByRecursion (IsPiece size traces trace) pieces → AllByRecursion (IsNarrow size) pieces
all-narrow size traces trace [] each = tt
all-narrow size traces trace (piece ∷ pieces) each = (each.0.narrow, all-narrow size traces trace pieces each.1)

-- a page takes a piece that fits
takes_one : (size : ℕ) (piece : Piece) (pieces : List Piece) → IsNarrow size piece → fits size (piece ∷ pieces) ≡ suc (count_beside (page_room size) (0 + cost_of piece) (map cost_of pieces))
takes_one size piece pieces narrow =
    let room : nat_le (0 + cost_of piece) (page_room size) ≡ true = le-leb (0 + cost_of piece) (page_room size) (omega (arith, narrow)) in
    ap (λ b. cond b (1 + count_beside (page_room size) (0 + cost_of piece) (map cost_of pieces)) 0) room ∙ one-add (count_beside (page_room size) (0 + cost_of piece) (map cost_of pieces))

runs_join : (most size : ℕ) (pieces : List Piece) → length pieces ≤ most → AllByRecursion (IsNarrow size) pieces → joined (runs_within most size pieces) ≡ pieces
runs_join zero size [] few each = refl
runs_join zero size (piece ∷ pieces) few each = absurd (omega arith)
runs_join (suc most) size [] few each = refl
runs_join (suc most) size (piece ∷ pieces) few each =
    let k = count_beside (page_room size) (0 + cost_of piece) (map cost_of pieces) in
    let fewer : length (drop k pieces) ≤ most = omega (arith, length-drop k pieces) in
    let parted = all-parted (IsNarrow size) k pieces each.1 in
    ap (λ n. take n (piece ∷ pieces) ++ joined (runs_within most size (drop n (piece ∷ pieces)))) (takes_one size piece pieces each.0)
    ∙ ap (λ rest. piece ∷ (take k pieces ++ rest)) (runs_join most size (drop k pieces) fewer parted.1)
    ∙ ap (λ rest. piece ∷ rest) (take-append-drop k pieces)

on_runs : (trace : TraceId) (runs : List (List Piece)) → pieces_on (map (λ pieces. record { trace = trace; pieces = pieces }) runs) ≡ joined runs
on_runs trace [] = refl
on_runs trace (run ∷ runs) = ap (λ rest. run ++ rest) (on_runs trace runs)

on_segment : (size : ℕ) (segment : Segment) → AllByRecursion (IsNarrow size) segment.pieces → pieces_on (segment_pages size segment) ≡ segment.pieces
on_segment size segment each = on_runs segment.trace (runs_within (length segment.pieces) size segment.pieces) ∙ runs_join (length segment.pieces) size segment.pieces (omega arith) each

on_both : (pages more : List PlainPage) → pieces_on (pages ++ more) ≡ pieces_on pages ++ pieces_on more
on_both [] more = refl
on_both (page ∷ pages) more = ap (λ rest. page.pieces ++ rest) (on_both pages more) ∙ sym (append_assoc page.pieces (pieces_on pages) (pieces_on more))

-- ---- operations

abbrev later_pieces : ℕ → ℕ → List Operation → List Piece
later_pieces size number ops = pieces_on (flat_map (segment_pages size) (segments_from size number ops))

mutual
  closed-pieces : (size : ℕ) (traces : Traces) (place number : ℕ) (ops : List Operation) → MIN_SIZE ≤ size → AreBracketed false ops → Agree traces number (records_from place None ops)
      → later_pieces size number ops ≡ pieces_of_records size number (records_from place None ops)
  closed-pieces size traces place number [] wide well agree = refl
  closed-pieces size traces place number (Begin trace ∷ ops) wide well agree =
      let segment : Segment = record { trace = trace; pieces = pieces_until_end size number ops } in
      let are = segment_well size traces trace (place + 1) number ops wide well.1 agree in
      on_both (segment_pages size segment) (flat_map (segment_pages size) (segments_from size number ops))
      ∙ ap (λ front. front ++ later_pieces size number ops) (on_segment size segment (all-narrow size traces trace segment.pieces are.each))
      ∙ open-pieces size traces trace (place + 1) number ops wide well.1 agree
  closed-pieces size traces place number (Fire trigger ∷ ops) wide well agree = closed-pieces size traces (place + 1) number ops wide well agree
  closed-pieces size traces place number (operation ∷ ops) wide well agree = absurd (true≢false (sym well.0))

  open-pieces : (size : ℕ) (traces : Traces) (trace : TraceId) (place number : ℕ) (ops : List Operation) → MIN_SIZE ≤ size → AreBracketed true ops
      → Agree traces number (records_from place (Some trace) ops)
      → pieces_until_end size number ops ++ later_pieces size number ops ≡ pieces_of_records size number (records_from place (Some trace) ops)
  open-pieces size traces trace place number [] wide well agree = absurd (true≢false well)
  open-pieces size traces trace place number (Begin next ∷ ops) wide well agree = absurd (true≢false well.0)
  open-pieces size traces trace place number (End ∷ ops) wide well agree = closed-pieces size traces (place + 1) number ops wide well.1 agree
  open-pieces size traces trace place number (Point moment payload ∷ ops) wide well agree =
      let r : Record = record { trace = trace; moment = moment; payload = payload } in
      append_assoc (record_pieces size number moment payload) (pieces_until_end size (number + 1) ops) (later_pieces size (number + 1) ops)
      ∙ ap (λ rest. record_pieces size number moment payload ++ rest)
      (open-pieces size traces trace (place + 1) (number + 1) ops wide well.1 (agree-tail traces number r (records_from (place + 1) (Some trace) ops) agree))
  open-pieces size traces trace place number (Crumb node ∷ ops) wide well agree = open-pieces size traces trace (place + 1) number ops wide well.1 agree
  open-pieces size traces trace place number (Fire trigger ∷ ops) wide well agree = open-pieces size traces trace (place + 1) number ops wide well agree
  open-pieces size traces trace place number (Sample moment auto value ∷ ops) wide well agree = open-pieces size traces trace (place + 1) number ops wide well.1 agree

pub pages_hold_the_pieces : PagesHoldThePieces
pages_hold_the_pieces size ops wide bracketed =
    let traces = traces_of (records_of ops) in
    closed-pieces size traces 0 0 ops wide bracketed (λ k. let here : 0 + k ≡ k = omega arith in ap traces here)
