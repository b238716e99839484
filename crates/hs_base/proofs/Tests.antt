-- Tests of all items of a list, and of any.
use Rattle.std.proofs.Common.{◌≡◌, ℕ, zero, suc, Bool, true, false, ◌&&◌, ◌||◌, List, [], ◌∷◌, refl, ap, ◌∙◌, Some, None, sym, slice_get, map}
use Rattle.std.specs.Cmp.Derive.{both_true}
use Rattle.std.specs.List.{AllByRecursion, list_all, list_any}
use Rattle.std.proofs.lemmas.Bool.{and_parts}
use Rattle.std.proofs.lemmas.Option.{same_Some}

pub list_all_from : {X : Type 0} (p : X → Bool) (xs : List X) → AllByRecursion (λ x. p x ≡ true) xs → list_all p xs ≡ true
list_all_from p [] all = refl
list_all_from p (x ∷ xs) all = both_true all.0 (list_all_from p xs all.1)

pub list_any_none : {X : Type 0} (p : X → Bool) (xs : List X) → AllByRecursion (λ x. p x ≡ false) xs → list_any p xs ≡ false
list_any_none p [] all = refl
list_any_none p (x ∷ xs) all = ap (λ b. b || list_any p xs) all.0 ∙ list_any_none p xs all.1

pub list_all_at : {A : Type 0} (p : A → Bool) (xs : List A) (i : ℕ) (x : A) → list_all p xs ≡ true → slice_get xs i ≡ Some x → p x ≡ true
list_all_at p [] i x all e = let none : None ≡ Some x = e in absurd cc
list_all_at p (y ∷ xs) zero x all e = let same : y ≡ x = cc in ap p (sym same) ∙ (and_parts (p y) (list_all p xs) all).0
list_all_at p (y ∷ xs) (suc i) x all e = list_all_at p xs i x (and_parts (p y) (list_all p xs) all).1 e

pub list_all_fails : {X : Type 0} (p : X → Bool) (xs : List X) (i : ℕ) (x : X) → slice_get xs i ≡ Some x → p x ≡ false → list_all p xs ≡ false
list_all_fails p [] i x at off = let never : None ≡ Some x = at in absurd cc
list_all_fails p (y ∷ xs) zero x at off = ap (λ b. b && list_all p xs) (ap p (same_Some y x at) ∙ off)
list_all_fails p (y ∷ xs) (suc i) x at off = and_no (p y) (list_all_fails p xs i x at off)
  where
    and_no : (b : Bool) → list_all p xs ≡ false → (b && list_all p xs) ≡ false
    and_no true h = h
    and_no false h = refl

pub list_all_by_place : {X : Type 0} (p : X → Bool) (xs : List X) → ((i : ℕ) (x : X) → slice_get xs i ≡ Some x → p x ≡ true) → list_all p xs ≡ true
list_all_by_place p [] each = refl
list_all_by_place p (x ∷ xs) each = ap (λ b. b && list_all p xs) (each 0 x refl) ∙ list_all_by_place p xs (λ i y at. each (suc i) y at)

pub list_all_map : {A B : Type 0} (f : B → Bool) (g : A → B) (xs : List A) → list_all f (map g xs) ≡ list_all (λ x. f (g x)) xs
list_all_map f g [] = refl
list_all_map f g (x ∷ xs) = ap (λ b. f (g x) && b) (list_all_map f g xs)

pub list_any_map : {X Y : Type 0} (p : Y → Bool) (f : X → Y) (xs : List X) → list_any p (map f xs) ≡ list_any (λ x. p (f x)) xs
list_any_map p f [] = refl
list_any_map p f (x ∷ xs) = ap (λ b. p (f x) || b) (list_any_map p f xs)
