-- The loops over the pieces of a page: what was summed and what was written so far.
use Rattle.std.proofs.Common.{◌≡◌, ℕ, zero, suc, ◌+◌, ◌<◌, ◌≤◌, List, [], ◌∷◌, ◌++◌, length, map, take, drop, set, get_or, refl, ap, arith}
use Rattle.std.specs.List.{sum_by}
use Rattle.std.proofs.lemmas.List.Sums.{sum_by-cons}
use Rattle.hs_words.specs.declared.page.Point.{Point}
use Rattle.hs_words.specs.Pages.{cost_of, piece_of}
use Rattle.hs_c.specs.declared.pages.HindPiece.{HindPiece}
use Rattle.hs_c.specs.Pages.{piece_out, with_pieces}

-- the cost so far and that of the next piece are within the whole cost
pub cost_within : (points : List Point) (i : ℕ) (point : Point) → i < length points → point ≡ get_or points i point
    → sum_by cost_of (map piece_of (take i points)) + (10 + length point.payload.items) ≤ sum_by cost_of (map piece_of points)
cost_within [] i point within is = absurd (omega arith)
cost_within (x ∷ xs) zero point within is =
    omega (arith, sum_by-cons cost_of (piece_of x) (map piece_of xs), ap (λ (p : Point). length p.payload.items) is)
cost_within (x ∷ xs) (suc i) point within is =
    omega (
      arith,
      sum_by-cons cost_of (piece_of x) (map piece_of xs),
      sum_by-cons cost_of (piece_of x) (map piece_of (take i xs)),
      cost_within xs i point (omega arith) is,
    )

-- so many pieces stand in front
abbrev pub first_out : ℕ → List Point → List HindPiece → List HindPiece
first_out i points old = map piece_out (map piece_of (take i points)) ++ drop i old

-- the next piece is written behind them
pub next_out : (points : List Point) (old : List HindPiece) (i : ℕ) (point : Point) → i < length points → i < length old → point ≡ get_or points i point
    → set (first_out i points old) i (piece_out (piece_of point)) ≡ first_out (suc i) points old
next_out [] old i point some room is = absurd (omega arith)
next_out (x ∷ xs) [] i point some room is = absurd (omega arith)
next_out (x ∷ xs) (o ∷ old) zero point some room is = ap (λ (p : Point). piece_out (piece_of p) ∷ old) is
next_out (x ∷ xs) (o ∷ old) (suc i) point some room is = ap (λ (out : List HindPiece). piece_out (piece_of x) ∷ out) (next_out xs old i point (omega arith) (omega arith) is)

zero_is : (i : ℕ) → i ≤ 0 → i ≡ 0
zero_is i least = omega arith

-- where there is no piece more, or no room, all is written
pub all_out : (points : List Point) (old : List HindPiece) (i : ℕ) → i ≤ length points → i ≤ length old → (i < length points → i < length old → ⊥)
    → first_out i points old ≡ with_pieces (map piece_of points) old
all_out [] [] i some room last = rw (zero_is i some) refl
all_out [] (o ∷ old) i some room last = rw (zero_is i some) refl
all_out (x ∷ xs) [] i some room last = rw (zero_is i room) refl
all_out (x ∷ xs) (o ∷ old) zero some room last = absurd (last (omega arith) (omega arith))
all_out (x ∷ xs) (o ∷ old) (suc i) some room last =
    ap (λ (out : List HindPiece). piece_out (piece_of x) ∷ out) (all_out xs old i (omega arith) (omega arith) (λ more space. last (omega arith) (omega arith)))
