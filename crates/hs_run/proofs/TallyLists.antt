-- Lists whose items have numbers, sums of few small items, and lists of one item.
use Rattle.std.proofs.Common.{◌≡◌, ℕ, zero, suc, ◌+◌, ◌*◌, ◌<◌, ◌≤◌, Bool, true, false, cond, List, [], ◌∷◌, length, filter, get_or, replicate, Some, inl, inr, refl, ap, subst, arith, slice_get, sum_by}
use Rattle.hs_run.proofs.Prelude.{suc-mul, mul-le-mul_right, slice_get-get_or, AllByRecursion, same_or_less}
use Rattle.std.proofs.lemmas.List.Sums.{sum_by-le}

-- ---- items with numbers

module _ {X : Type 0} (Has : ℕ → X → Type 0) (often : List X → ℕ → ℕ) (often_here : (n : ℕ) (x : X) (xs : List X) → Has n x → often xs n + 1 ≤ often (x ∷ xs) n) (often_more : (n : ℕ) (x : X) (xs : List X) → often xs n ≤ often (x ∷ xs) n) where
  -- how often items have one of the first so many numbers
  all_of : ℕ → List X → ℕ
  all_of zero xs = 0
  all_of (suc n) xs = all_of n xs + often xs n

  grows : (n : ℕ) (x : X) (xs : List X) → all_of n xs ≤ all_of n (x ∷ xs)
  unfolding all_of
  grows zero x xs = omega arith
  grows (suc n) x xs =
      let rest = grows n x xs in
      let here = often_more n x xs in
      omega (arith, rest, here)

  counts : (n k : ℕ) (x : X) (xs : List X) → k < n → Has k x → all_of n xs + 1 ≤ all_of n (x ∷ xs)
  unfolding all_of
  counts zero k x xs low has = absurd (omega (arith, low))
  counts (suc n) k x xs low has =
      elim (same_or_less k n low) [
        | inl less ↦
            let rest = counts n k x xs less has in
            let here = often_more n x xs in
            omega (arith, rest, here)
        | inr same ↦
            let rest = grows n x xs in
            let here : often xs n + 1 ≤ often (x ∷ xs) n = subst (λ (j : ℕ). often xs j + 1 ≤ often (x ∷ xs) j) same (often_here k x xs has) in
            omega (arith, rest, here)
      ]

  all_counted : (n : ℕ) (xs : List X) → AllByRecursion (λ x. (k : ℕ) × (k < n) × Has k x) xs → length xs ≤ all_of n xs
  all_counted n [] all = omega arith
  all_counted n (x ∷ xs) all =
      let rest = all_counted n xs all.1 in
      let here = counts n all.0.0 x xs all.0.1 all.0.2 in
      omega (arith, rest, here)

  bounded : (n most : ℕ) (xs : List X) → ((k : ℕ) → k < n → often xs k ≤ most) → all_of n xs ≤ n * most
  unfolding all_of
  bounded zero most xs each = omega arith
  bounded (suc n) most xs each =
      let rest = bounded n most xs (λ k low. each k (omega (arith, low))) in
      let last = each n (omega arith) in
      let next : suc n * most ≡ n * most + most = suc-mul n most in
      omega (arith, rest, last, next)

  -- no more items than so many for each number
  pub few_for_each : (n most : ℕ) (xs : List X) → AllByRecursion (λ x. (k : ℕ) × (k < n) × Has k x) xs → ((k : ℕ) → k < n → often xs k ≤ most) → length xs ≤ n * most
  few_for_each n most xs all each =
      let count = all_counted n xs all in
      let bound = bounded n most xs each in
      omega (arith, count, bound)

-- and where a test finds those of a number
pub few_filtered : {X : Type 0} (is : ℕ → X → Bool) (n most : ℕ) (xs : List X) → AllByRecursion (λ x. (k : ℕ) × (k < n) × (is k x ≡ true)) xs → ((k : ℕ) → k < n → length (filter (is k) xs) ≤ most) → length xs ≤ n * most
few_filtered {X} is n most xs all each = few_for_each (λ k x. is k x ≡ true) (λ ys k. length (filter (is k) ys)) here more n most xs all each
  where
    either : (b : Bool) (x : X) (ys : List X) → length ys ≤ length (cond b (x ∷ ys) ys)
    either true x ys = omega arith
    either false x ys = omega arith

    here : (k : ℕ) (x : X) (ys : List X) → is k x ≡ true → length (filter (is k) ys) + 1 ≤ length (filter (is k) (x ∷ ys))
    here k x ys has =
        let rest = filter (is k) ys in
        let e : length (cond (is k x) (x ∷ rest) rest) ≡ length (x ∷ rest) = ap (λ (b : Bool). length (cond b (x ∷ rest) rest)) has in
        omega (arith, e)

    more : (k : ℕ) (x : X) (ys : List X) → length (filter (is k) ys) ≤ length (filter (is k) (x ∷ ys))
    more k x ys = either (is k x) x (filter (is k) ys)

-- ---- sums

-- at most so many items, each at most so much
pub sum_below : {X : Type 0} (f : X → ℕ) (count most : ℕ) (xs : List X) → length xs ≤ count → ((i : ℕ) (x : X) → slice_get xs i ≡ Some x → f x ≤ most) → sum_by f xs ≤ count * most
sum_below f count most xs few each =
    let sum = sum_by-le f most xs (λ k d low. each k (get_or xs k d) (slice_get-get_or xs k d low)) in
    let product = mul-le-mul_right most few in
    omega (arith, sum, product)

-- ---- lists of one item

pub replicated : {X : Type 0} (x : X) (count i : ℕ) → i < count → slice_get (replicate count x) i ≡ Some x
replicated x zero i low = absurd (omega (arith, low))
replicated x (suc count) zero low = refl
replicated x (suc count) (suc i) low = replicated x count i (omega (arith, low))
