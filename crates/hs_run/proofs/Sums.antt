-- Lists by their places, and sums over them.
use Rattle.std.proofs.Common.{◌≡◌, ℕ, zero, suc, ◌+◌, ◌<◌, Bool, true, false, List, [], ◌∷◌, length, map, take, get_or, Some, refl, sym, ap, ◌∙◌, arith, slice_get, sum_by, count_by}
use Rattle.hs_run.proofs.Prelude.{range_with_len, length-map, sum_by-cons, same_Some}
use Rattle.std.proofs.lemmas.List.{get_or-map}
use Rattle.std.proofs.lemmas.List.Sums.{count_by_more_yes, count_by_more_no}

pub by_places : {X : Type 0} (f : ℕ → X) (start count : ℕ) (xs : List X) → length xs ≡ count → ((i : ℕ) → i < count → slice_get xs i ≡ Some (f (start + i))) → xs ≡ map f (range_with_len start count)
by_places f start zero [] long each = refl
by_places f start (suc count) [] long each = absurd (omega (arith, long))
by_places f start zero (x ∷ xs) long each = absurd (omega (arith, long))
by_places f start (suc count) (x ∷ xs) long each =
    let zeroth : start + 0 ≡ start = omega arith in
    ap (λ y. y ∷ xs) (same_Some x (f start) (each 0 (omega arith) ∙ ap (λ i. Some (f i)) zeroth))
    ∙ ap (λ rest. f start ∷ rest)
    (by_places f (start + 1) count xs (omega (arith, long)) (λ i low. let next : start + suc i ≡ start + 1 + i = omega arith in each (suc i) (omega (arith, low)) ∙ ap (λ j. Some (f j)) next))

pub sum_mapped : {X Y : Type 0} (g : Y → ℕ) (f : X → Y) (xs : List X) → sum_by g (map f xs) ≡ sum_by (λ x. g (f x)) xs
sum_mapped g f [] = refl
sum_mapped g f (x ∷ xs) = sum_by-cons g (f x) (map f xs) ∙ ap (λ rest. g (f x) + rest) (sum_mapped g f xs) ∙ sym (sum_by-cons (λ x. g (f x)) x xs)

pub sum_same : {X : Type 0} (f g : X → ℕ) → ((x : X) → f x ≡ g x) → (xs : List X) → sum_by f xs ≡ sum_by g xs
sum_same f g each [] = refl
sum_same f g each (x ∷ xs) = sum_by-cons f x xs ∙ ap (λ n. n + sum_by f xs) (each x) ∙ ap (λ rest. g x + rest) (sum_same f g each xs) ∙ sym (sum_by-cons g x xs)

-- one more is counted, or is not
module _ {A B : Type 0} (f : A → B) (p : B → Bool) (xs : List A) (place : ℕ) (x : A) (low : place < length xs) (is : x ≡ get_or xs place x) where
  here : get_or (map f xs) place (f x) ≡ f x
  here = get_or-map f xs place x (f x) low ∙ ap f (sym is)

  inside : place < length (map f xs)
  inside = let long = length-map xs f in omega (arith, low, long)

  pub counts_it : (n m : ℕ) → n ≡ count_by p (take place (map f xs)) → p (f x) ≡ true → m ≡ n + 1 → m ≡ count_by p (take (place + 1) (map f xs))
  counts_it n m was passes more = more ∙ ap (λ k. k + 1) was ∙ sym (count_by_more_yes p (map f xs) place (f x) inside (ap p here ∙ passes))

  pub leaves_it : (n m : ℕ) → n ≡ count_by p (take place (map f xs)) → p (f x) ≡ false → m ≡ n → m ≡ count_by p (take (place + 1) (map f xs))
  leaves_it n m was fails same = same ∙ was ∙ sym (count_by_more_no p (map f xs) place (f x) inside (ap p here ∙ fails))
