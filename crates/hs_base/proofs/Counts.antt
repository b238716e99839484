-- How many items pass a test, and the number of a Boolean.
use Rattle.std.proofs.Common.{◌≡◌, ℕ, ◌+◌, ◌<◌, ◌≤◌, max, eqb, ltb, Bool, true, false, cond, List, [], ◌∷◌, ◌++◌, count_by, arith, refl, ap, map, fold, le-ltb, eqb-true, length}
use Rattle.std.specs.Int.{from_bool}
use Rattle.std.proofs.lemmas.List.Sums.{sum_by-cons, sum_by-append}

-- one where it holds
abbrev pub one_if : Bool → ℕ
one_if b = cond b 1 0

pub count_cons : {X : Type 0} (p : X → Bool) (x : X) (xs : List X) → count_by p (x ∷ xs) ≡ one_if (p x) + count_by p xs
count_cons p x xs = sum_by-cons (λ y. one_if (p y)) x xs

pub count_push : {X : Type 0} (p : X → Bool) (xs : List X) (x : X) → count_by p (xs ++ x ∷ []) ≡ count_by p xs + one_if (p x)
count_push p xs x =
    let both = sum_by-append (λ x. cond (p x) 1 0) xs (x ∷ []) in
    let last = sum_by-cons (λ x. cond (p x) 1 0) x [] in
    omega (arith, both, last)

pub count_alike : {X : Type 0} (p q : X → Bool) → ((x : X) → p x ≡ q x) → (xs : List X) → count_by p xs ≡ count_by q xs
count_alike p q same [] = refl
count_alike p q same (x ∷ xs) =
    let a = sum_by-cons (λ y. cond (p y) 1 0) x xs in
    let b = sum_by-cons (λ y. cond (q y) 1 0) x xs in
    let here : one_if (p x) ≡ one_if (q x) = ap one_if (same x) in
    let ih = count_alike p q same xs in
    omega (arith, a, b, here, ih)

pub count_map : {A B : Type 0} (p : B → Bool) (f : A → B) (xs : List A) → count_by p (map f xs) ≡ count_by (λ x. p (f x)) xs
count_map p f [] = refl
count_map p f (x ∷ xs) = let a = sum_by-cons (λ y. cond (p y) 1 0) (f x) (map f xs) in let b = sum_by-cons (λ y. cond (p (f y)) 1 0) x xs in let rest = count_map p f xs in omega (arith, a, b, rest)

pub max_at_least : (numbers : List ℕ) (from : ℕ) → from ≤ fold max from numbers
max_at_least [] from = omega arith
max_at_least (n ∷ numbers) from = let rest = max_at_least numbers (max from n) in omega (arith, rest)

pub one_few : (b : Bool) → one_if b ≤ 1
one_few true = omega arith
one_few false = omega arith

pub one_le : (a b : Bool) → (a ≡ true → b ≡ true) → one_if a ≤ one_if b
one_le true true on = omega arith
one_le true false on = let never : false ≡ true = on refl in absurd cc
one_le false b on = omega arith

-- where the one number is below the other
pub one_of_below : (a b : ℕ) (t : Bool) → eqb b a ≡ t → a < b → one_if t ≡ 0
one_of_below a b true is low = let same = eqb-true b a is in absurd (omega (arith, same, low))
one_of_below a b false is low = refl

pub from_bool_one : (b : Bool) → from_bool b ≡ one_if b
from_bool_one true = refl
from_bool_one false = refl

pub length_cons_if : {X : Type 0} (x : X) (xs : List X) (b : Bool) → length (cond b (x ∷ xs) xs) ≡ one_if b + length xs
length_cons_if x xs true = omega arith
length_cons_if x xs false = omega arith

pub count_append : {X : Type 0} (p : X → Bool) (xs ys : List X) → count_by p (xs ++ ys) ≡ count_by p xs + count_by p ys
count_append p xs ys = sum_by-append (λ x. one_if (p x)) xs ys

pub none_below_zero : (xs : List ℕ) → count_by (λ t. ltb t 0) xs ≡ 0
none_below_zero [] = refl
none_below_zero (x ∷ xs) =
    let first = count_cons (λ t. ltb t 0) x xs in let no : one_if (ltb x 0) ≡ 0 = ap one_if (le-ltb x 0 (omega arith)) in omega (arith, first, no, none_below_zero xs)
