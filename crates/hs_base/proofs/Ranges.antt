-- The numbers of a range: by their places, parted, mapped and tested.
use Rattle.std.proofs.Common.{◌≡◌, ℕ, zero, suc, ◌+◌, ◌<◌, ◌≤◌, Bool, true, List, ◌∷◌, ◌++◌, slice_get, Some, arith, ap, sym, ◌∙◌, None, map, option_map, refl, flat_map}
use Rattle.std.specs.Cmp.Derive.{both_true}
use Rattle.std.specs.List.{range_with_len, list_all}
use Rattle.std.proofs.lemmas.Bool.{and_from}
use Rattle.std.proofs.lemmas.Option.{slice_get-map}

pub range_at : (start count i : ℕ) → i < count → slice_get (range_with_len start count) i ≡ Some (start + i)
range_at start zero i h = absurd (omega (arith, h))
range_at start (suc count) zero h = let e : start + 0 ≡ start = omega arith in ap (λ k. Some k) (sym e)
range_at start (suc count) (suc i) h = let e : start + 1 + i ≡ start + suc i = omega arith in range_at (start + 1) count i (omega (arith, h)) ∙ ap (λ k. Some k) e

pub range_found : (a n i : ℕ) (k : ℕ) → slice_get (range_with_len a n) i ≡ Some k → k ≡ a + i
range_found a zero i k e = let none : None ≡ Some k = e in absurd cc
range_found a (suc n) zero k e = let same : a ≡ k = cc in omega (arith, same)
range_found a (suc n) (suc i) k e = let h = range_found (a + 1) n i k e in omega (arith, h)

pub range_append : (a m n : ℕ) → range_with_len a (m + n) ≡ range_with_len a m ++ range_with_len (a + m) n
range_append a zero n = ap (range_with_len a) (let e : 0 + n ≡ n = omega arith in e) ∙ ap (λ k. range_with_len k n) (let e : a ≡ a + 0 = omega arith in e)
range_append a (suc m) n =
    ap (range_with_len a) (let e : suc m + n ≡ suc (m + n) = omega arith in e) ∙ ap (λ r. a ∷ r) (range_append (a + 1) m n) ∙ ap (λ k. a ∷ range_with_len (a + 1) m ++ range_with_len k n) (let e : a + 1 + m ≡ a + suc m = omega arith in e)

pub map_range_at : {X : Type 0} (f : ℕ → X) (count k : ℕ) → k < count → slice_get (map f (range_with_len 0 count)) k ≡ Some (f k)
map_range_at f count k low =
    let zeroth : 0 + k ≡ k = omega arith in slice_get-map f (range_with_len 0 count) k ∙ ap (option_map f) (range_at 0 count k low) ∙ ap (λ m. Some (f m)) zeroth

pub map_range_from : {A : Type 0} (f : ℕ → A) (start count place : ℕ) → place < count → slice_get (map f (range_with_len start count)) place ≡ Some (f (start + place))
map_range_from f start zero place low = absurd (omega arith)
map_range_from f start (suc count) zero low = ap (λ n. Some (f n)) (omega arith)
map_range_from f start (suc count) (suc place) low = map_range_from f (start + 1) count place (omega arith) ∙ ap (λ n. Some (f n)) (omega arith)

pub flat_range_alike : {X : Type 0} (f g : ℕ → List X) (start count : ℕ) → ((k : ℕ) → k < start + count → f k ≡ g k) → flat_map f (range_with_len start count) ≡ flat_map g (range_with_len start count)
flat_range_alike f g start zero same = refl
flat_range_alike f g start (suc count) same =
    ap (λ front. front ++ flat_map f (range_with_len (start + 1) count)) (same start (omega arith)) ∙ ap (λ rest. g start ++ rest) (flat_range_alike f g (start + 1) count (λ k h. same k (omega (arith, h))))

-- a test that holds of each number of a range, and one that does not
pub list_all_range : (p : ℕ → Bool) (a n : ℕ) → ((i : ℕ) → a ≤ i → i < a + n → p i ≡ true) → list_all p (range_with_len a n) ≡ true
list_all_range p a zero h = refl
list_all_range p a (suc n) h = and_from (p a) (list_all p (range_with_len (a + 1) n)) (h a (omega arith) (omega arith)) (list_all_range p (a + 1) n (λ i low high. h i (omega arith) (omega arith)))

pub list_all_range_below : (p : ℕ → Bool) (start count : ℕ) → ((n : ℕ) → n < start + count → p n ≡ true) → list_all p (range_with_len start count) ≡ true
list_all_range_below p start zero each = refl
list_all_range_below p start (suc count) each =
    let here : start < start + suc count = omega arith in
    both_true (each start here) (list_all_range_below p (start + 1) count (λ n h. let below : n < start + suc count = omega (arith, h) in each n below))
