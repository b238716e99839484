-- A page takes no more pieces than it has room for.
use Rattle.std.proofs.Common.{◌≡◌, ℕ, zero, suc, ◌+◌, ◌≤◌, Bool, true, false, cond, List, [], ◌∷◌, ◌++◌, length, refl, ap, arith, map, take, drop, zip, leb}
use Rattle.hs_client.proofs.Prelude.{AllByRecursion, flat_map, ClientId, TraceId, MIN_SIZE, sheet_for, count_beside, PlainPage, cost_of, page_room, fits, runs_within, segment_pages, Piece, Segment, segments_of, TimedPage, point_numbers, end_numbers, timed}
use Rattle.std.specs.Prelude.{sum_by}
use Rattle.std.proofs.lemmas.Bool.{leb-true}
use Rattle.std.proofs.lemmas.List.Sums.{sum_by-cons}
use Rattle.hs_client.specs.Calls.{written}
use Rattle.hs_records.specs.Pages.{runs_of}
use Rattle.hs_words.specs.Chunks.{used_of}
use Rattle.hs_words.specs.Pages as page
use Rattle.hs_client.specs.Laws.{PagesFit}

-- ---- costs

abbrev costs : List Piece → ℕ
costs pieces = sum_by cost_of pieces

front_case : (budget spent : ℕ) (piece : Piece) (pieces : List Piece) (b : Bool) → leb (spent + cost_of piece) budget ≡ b → spent ≤ budget
    → (spent + cost_of piece ≤ budget → spent + cost_of piece + costs (take (count_beside budget (spent + cost_of piece) (map cost_of pieces)) pieces) ≤ budget)
    → spent + costs (take (cond b (1 + count_beside budget (spent + cost_of piece) (map cost_of pieces)) 0) (piece ∷ pieces)) ≤ budget
front_case budget spent piece pieces true e low on =
    let n = count_beside budget (spent + cost_of piece) (map cost_of pieces) in
    let paid = on (leb-true (spent + cost_of piece) budget e) in
    let up : 1 + n ≡ suc n = omega arith in
    let same = ap (λ (k : ℕ). costs (take k (piece ∷ pieces))) up in
    let first = sum_by-cons cost_of piece (take n pieces) in
    omega (arith, paid, same, first)
front_case budget spent piece pieces false e low on = omega (arith, low)

-- the front that a budget pays for costs no more than it
front_paid : (budget spent : ℕ) (pieces : List Piece) → spent ≤ budget → spent + costs (take (count_beside budget spent (map cost_of pieces)) pieces) ≤ budget
front_paid budget spent [] low = omega (arith, low)
front_paid budget spent (piece ∷ pieces) low =
    front_case budget spent piece pieces (leb (spent + cost_of piece) budget) refl low (λ low. front_paid budget (spent + cost_of piece) pieces low)

abbrev Fits : ℕ → List Piece → Type 0
Fits size pieces = costs pieces ≤ page_room size

runs_fit : (most size : ℕ) (pieces : List Piece) → AllByRecursion (Fits size) (runs_within most size pieces)
runs_fit zero size pieces = tt
runs_fit (suc most) size [] = tt
runs_fit (suc most) size (piece ∷ pieces) =
    let paid = front_paid (page_room size) 0 (piece ∷ pieces) (omega arith) in
    (omega (arith, paid), runs_fit most size (drop (fits size (piece ∷ pieces)) (piece ∷ pieces)))

-- ---- pages

written_costs : (pieces : List Piece) → sum_by page.cost_of (map written pieces) ≡ costs pieces
written_costs [] = refl
written_costs (piece ∷ pieces) =
    let a = sum_by-cons page.cost_of (written piece) (map written pieces) in
    let b = sum_by-cons cost_of piece pieces in
    let rest = written_costs pieces in
    omega (arith, a, b, rest)

module _ (size : ℕ) (least : MIN_SIZE ≤ size) where
  abbrev PageFits : PlainPage → Type 0
  PageFits p = (client : ClientId) (number : ℕ) → used_of (sheet_for client number p) ≤ size

  runs_pages : (trace : TraceId) (runs : List (List Piece)) → AllByRecursion (Fits size) runs → AllByRecursion PageFits (map (λ pieces. record { trace = trace; pieces = pieces }) runs)
  runs_pages trace [] all = tt
  runs_pages trace (run ∷ runs) all =
      (λ client number. let same = written_costs run in let few = all.0 in omega (arith, same, few, least), runs_pages trace runs all.1)

  abbrev TimedFits : TimedPage → Type 0
  TimedFits p = (client : ClientId) (number : ℕ) → used_of (sheet_for client number p.page) ≤ size

  timed_fit : (points : List ℕ) (end : ℕ) (pages : List PlainPage) → AllByRecursion PageFits pages → AllByRecursion TimedFits (timed points end pages)
  timed_fit points end [] all = tt
  timed_fit points end (p ∷ pages) all = (all.0, timed_fit points end pages all.1)

  both : (xs ys : List TimedPage) → AllByRecursion TimedFits xs → AllByRecursion TimedFits ys → AllByRecursion TimedFits (xs ++ ys)
  both [] ys a b = b
  both (x ∷ xs) ys a b = (a.0, both xs ys a.1 b)

  segments_fit : (points : List ℕ) (segments : List (ℕ × Segment)) → AllByRecursion TimedFits (flat_map (λ (s : ℕ × Segment). timed points s.0 (segment_pages size s.1)) segments)
  segments_fit points [] = tt
  segments_fit points (s ∷ segments) =
      both (timed points s.0 (segment_pages size s.1)) (flat_map (λ (s : ℕ × Segment). timed points s.0 (segment_pages size s.1)) segments)
      (timed_fit points s.0 (segment_pages size s.1) (runs_pages s.1.trace (runs_of size s.1.pieces) (runs_fit (length s.1.pieces) size s.1.pieces))) (segments_fit points segments)

pub pages_fit : PagesFit
pages_fit size ops least = segments_fit size least (point_numbers ops) (zip (end_numbers ops) (segments_of size ops))
