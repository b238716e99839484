-- Lists that are extended, tested and counted.
use Rattle.std.proofs.Common.{◌≡◌, ℕ, zero, suc, ◌+◌, ◌<◌, Bool, List, [], ◌∷◌, ◌++◌, length, set, refl, sym, ap, arith, slice_get, unwrap_or, append-nil, Some, true, zip, ◌∙◌}
use Rattle.hs_law_run.proofs.Prelude.{extended, both_true, list_all, range_with_len}

module _ {X : Type 0} where
  -- ---- places

  pub set_at : (front : List X) (x y : X) (behind : List X) → set (front ++ x ∷ behind) (length front) y ≡ front ++ y ∷ behind
  set_at [] x y behind = refl
  set_at (z ∷ front) x y behind = ap (λ rest. z ∷ rest) (set_at front x y behind)

  -- ---- lists that are extended

  pub length_extended : (lists more : List (List X)) → length (extended lists more) ≡ length lists
  length_extended [] more = refl
  length_extended (items ∷ lists) [] = refl
  length_extended (items ∷ lists) (behind ∷ more) = ap suc (length_extended lists more)

  pub extended_at : (lists more : List (List X)) (i : ℕ) → i < length lists → i < length more
      → unwrap_or (slice_get (extended lists more) i) [] ≡ unwrap_or (slice_get lists i) [] ++ unwrap_or (slice_get more i) []
  extended_at [] more i h k = absurd (omega (arith, h))
  extended_at (items ∷ lists) [] i h k = absurd (omega (arith, k))
  extended_at (items ∷ lists) (behind ∷ more) zero h k = refl
  extended_at (items ∷ lists) (behind ∷ more) (suc i) h k = extended_at lists more i (omega (arith, h)) (omega (arith, k))

  -- whatever the place, there is more behind
  pub extended_more : (lists more : List (List X)) (i : ℕ) → (behind : List X) × (unwrap_or (slice_get (extended lists more) i) [] ≡ unwrap_or (slice_get lists i) [] ++ behind)
  extended_more [] more i = ([], refl)
  extended_more (items ∷ lists) [] i = ([], sym (append-nil (unwrap_or (slice_get (items ∷ lists) i) [])))
  extended_more (items ∷ lists) (behind ∷ more) zero = (behind, refl)
  extended_more (items ∷ lists) (behind ∷ more) (suc i) = extended_more lists more i

-- ---- tests

pub zipped_all : {X : Type 0} (p : ℕ × X → Bool) (start : ℕ) (xs : List X) → ((n : ℕ) (x : X) → slice_get xs n ≡ Some x → p (start + n, x) ≡ true) → list_all p (zip (range_with_len start (length xs)) xs) ≡ true
zipped_all p start [] each = refl
zipped_all p start (x ∷ xs) each =
    let here : start + 0 ≡ start = omega arith in
    both_true (ap (λ (n : ℕ). p (n, x)) (sym here) ∙ each 0 x refl)
    (zipped_all p (start + 1) xs (λ n y h. let there : start + 1 + n ≡ start + suc n = omega arith in ap (λ (n : ℕ). p (n, y)) there ∙ each (suc n) y h))
