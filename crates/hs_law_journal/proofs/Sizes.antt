-- A client has no more pages than its points have pieces, and no more operations than these count.
use Rattle.std.proofs.Common.{◌≡◌, ℕ, zero, suc, ◌+◌, ◌*◌, ◌≤◌, Bool, true, false, cond, List, [], ◌∷◌, length, arith, drop, slice_get, unwrap_or, length-append}
use Rattle.hs_law_journal.proofs.Prelude.{AllByRecursion, flat_map, length-map, sum_by-cons, Operation, Begin, Point, End, Fire, Sample}
use Rattle.std.specs.List.{sum_by}
use Rattle.hs_records.specs.Pages.{PlainPage, segment_pages, pages_of, runs_within, fits}
use Rattle.hs_records.specs.Plain.{Crumb}
use Rattle.hs_records.specs.Records.{AreBracketed, Piece, Segment, payload_pieces, pieces_until_end, record_pieces, segments_from}
use Rattle.hs_records.specs.Validity.{client_pieces, workload_pieces}
use Rattle.hs_law_journal.specs.Known.{PiecesCounted}

runs_few : (most size : ℕ) (pieces : List Piece) → length (runs_within most size pieces) ≤ most
runs_few zero size pieces = omega arith
runs_few (suc most) size [] = omega arith
runs_few (suc most) size (piece ∷ pieces) = let rest = runs_few most size (drop (fits size (piece ∷ pieces)) (piece ∷ pieces)) in omega (arith, rest)

segment_few : (size : ℕ) (segment : Segment) → length (segment_pages size segment) ≤ length segment.pieces
segment_few size segment =
    let same = length-map {B = PlainPage} (runs_within (length segment.pieces) size segment.pieces) (λ pieces. record { trace = segment.trace; pieces = pieces }) in
    let few = runs_few (length segment.pieces) size segment.pieces in
    omega (arith, same, few)

module _ (counted : PiecesCounted) (size : ℕ) where
  abbrev pages_from : ℕ → List Operation → ℕ
  pages_from number ops = length (flat_map (segment_pages size) (segments_from size number ops))

  -- what is left of the segment that is open
  abbrev open_pieces : Bool → ℕ → List Operation → ℕ
  open_pieces is_open number ops = cond is_open (length (pieces_until_end size number ops)) 0

  -- where the operation is none of the segment's
  pages_few : (is_open : Bool) (number : ℕ) (ops : List Operation) → AreBracketed is_open ops → pages_from number ops + open_pieces is_open number ops ≤ client_pieces size ops
  pages_few true number [] h = let never : true ≡ false = h in absurd cc
  pages_few false number [] h = omega arith
  pages_few true number (Begin trace ∷ ops) h = let never : true ≡ false = h.0 in absurd cc
  pages_few false number (Begin trace ∷ ops) h =
      let segment : Segment = record { trace = trace; pieces = pieces_until_end size number ops } in
      let both = length-append (segment_pages size segment) (flat_map (segment_pages size) (segments_from size number ops)) in
      let few = segment_few size segment in
      let rest = pages_few true number ops h.1 in
      omega (arith, both, few, rest)
  pages_few false number (Point moment payload ∷ ops) h = let never : false ≡ true = h.0 in absurd cc
  pages_few true number (Point moment payload ∷ ops) h =
      let both = length-append (record_pieces size number moment payload) (pieces_until_end size (number + 1) ops) in
      let mapped = length-map {B = Piece} (payload_pieces size payload) (λ bytes. record { number = number; moment = moment; payload = bytes }) in
      let pieces = counted size payload in
      let rest = pages_few true (number + 1) ops h.1 in
      omega (arith, both, mapped, pieces, rest)
  pages_few false number (End ∷ ops) h = let never : false ≡ true = h.0 in absurd cc
  pages_few true number (End ∷ ops) h = let rest = pages_few false number ops h.1 in omega (arith, rest)
  pages_few true number (Fire trigger ∷ ops) h = let rest = pages_few true number ops h in omega (arith, rest)
  pages_few false number (Fire trigger ∷ ops) h = let rest = pages_few false number ops h in omega (arith, rest)
  pages_few false number (Crumb node ∷ ops) h = let never : false ≡ true = h.0 in absurd cc
  pages_few true number (Crumb node ∷ ops) h = let rest = pages_few true number ops h.1 in omega (arith, rest)
  pages_few false number (Sample moment auto value ∷ ops) h = let never : false ≡ true = h.0 in absurd cc
  pages_few true number (Sample moment auto value ∷ ops) h = let rest = pages_few true number ops h.1 in omega (arith, rest)

  pub operations_few : (ops : List Operation) → length ops ≤ client_pieces size ops
  operations_few [] = omega arith
  operations_few (Begin trace ∷ ops) = let rest = operations_few ops in omega (arith, rest)
  operations_few (Point moment payload ∷ ops) = let rest = operations_few ops in omega (arith, rest)
  operations_few (End ∷ ops) = let rest = operations_few ops in omega (arith, rest)
  operations_few (Fire trigger ∷ ops) = let rest = operations_few ops in omega (arith, rest)
  operations_few (Crumb node ∷ ops) = let rest = operations_few ops in omega (arith, rest)
  operations_few (Sample moment auto value ∷ ops) = let rest = operations_few ops in omega (arith, rest)

  -- all pages and operations together
  pub all_few : (clients : List (List Operation)) → AllByRecursion (AreBracketed false) clients → sum_by (λ ops. length (pages_of size ops) + length ops) clients ≤ 2 * workload_pieces size clients
  all_few [] all = omega arith
  all_few (ops ∷ clients) all =
      let first = sum_by-cons (λ ops. length (pages_of size ops) + length ops) ops clients in
      let pages = pages_few false 0 ops all.0 in
      let operations = operations_few ops in
      let rest = all_few clients all.1 in
      omega (arith, first, pages, operations, rest)

  -- and no client has more operations than all pieces count
  pub client_few : (clients : List (List Operation)) (place : ℕ) → length (unwrap_or (slice_get clients place) []) ≤ workload_pieces size clients
  client_few [] place = omega arith
  client_few (ops ∷ clients) zero = let few = operations_few ops in omega (arith, few)
  client_few (ops ∷ clients) (suc place) = let rest = client_few clients place in omega (arith, rest)
