-- Fronts and ends of lists, and what a map does to them.
use Rattle.std.proofs.Common.{◌≡◌, ℕ, zero, suc, ◌+◌, ◌<◌, ◌≤◌, List, [], ◌∷◌, ◌++◌, length, take, refl, arith, ap, drop, get_or, drop-cons, sym, add-one, ◌∙◌, reverse, map, Option, Some, None, option_map, flat_map, option_to_list}
use Rattle.std.proofs.lemmas.List.{reverse-append, map-append}

pub take_whole : {A : Type 0} (xs : List A) (n : ℕ) → length xs ≤ n → take n xs ≡ xs
take_whole [] zero low = refl
take_whole [] (suc n) low = refl
take_whole (x ∷ xs) zero low = absurd (omega (arith, low))
take_whole {A = A} (x ∷ xs) (suc n) low = ap (λ (l : List A). x ∷ l) (take_whole xs n (omega (arith, low)))

pub take_length : {X : Type 0} (xs : List X) → take (length xs) xs ≡ xs
take_length [] = refl
take_length (x ∷ xs) = ap (λ rest. x ∷ rest) (take_length xs)

pub drop_front : {X : Type 0} (xs ys : List X) → drop (length xs) (xs ++ ys) ≡ ys
drop_front [] ys = refl
drop_front (x ∷ xs) ys = drop_front xs ys

pub drop_length : {A : Type 0} (xs : List A) → drop (length xs) xs ≡ []
drop_length [] = refl
drop_length (x ∷ xs) = drop_length xs

-- where one is left, those that are left begin with it
pub drop_next : {A : Type 0} (items : List A) (i : ℕ) (x : A) → i < length items → x ≡ get_or items i x → drop i items ≡ x ∷ drop (i + 1) items
drop_next items i x within is = drop-cons items i x within ∙ ap (λ y. y ∷ drop (suc i) items) (sym is) ∙ ap (λ n. x ∷ drop n items) (sym (add-one i))

-- a list that is its own rest behind the first item is empty
pub nil_of_rest : {A : Type 0} (xs : List A) → xs ≡ drop 1 xs → xs ≡ []
nil_of_rest [] e = refl
nil_of_rest (x ∷ xs) e = let count : length (x ∷ xs) ≡ length xs = ap length e in absurd (omega (arith, count))

pub reverse_cons : {X : Type 0} (x : X) (xs : List X) → reverse (x ∷ xs) ≡ reverse xs ++ x ∷ []
reverse_cons x xs = reverse-append (x ∷ []) xs

pub nil_behind : {A : Type 0} (xs : List A) → xs ≡ xs ++ []
nil_behind [] = refl
nil_behind {A = A} (x ∷ xs) = ap (λ (l : List A). x ∷ l) (nil_behind xs)

pub map_self : {A : Type 0} (xs : List A) → map (λ x. x) xs ≡ xs
map_self [] = refl
map_self (x ∷ xs) = ap (λ (l : List _). x ∷ l) (map_self xs)

pub map_alike : {X Y : Type 0} (f g : X → Y) (xs : List X) → ((x : X) → f x ≡ g x) → map f xs ≡ map g xs
map_alike f g [] same = refl
map_alike f g (x ∷ xs) same = λ i. same x i ∷ map_alike f g xs same i

pub map_append : {X Y : Type 0} (f : X → Y) (xs ys : List X) → map f (xs ++ ys) ≡ map f xs ++ map f ys
map_append f [] ys = refl
map_append f (x ∷ xs) ys = ap (λ (rest : List _). f x ∷ rest) (map_append f xs ys)

pub map_drop : {X Y : Type 0} (f : X → Y) (n : ℕ) (xs : List X) → map f (drop n xs) ≡ drop n (map f xs)
map_drop f zero xs = refl
map_drop f (suc n) [] = refl
map_drop f (suc n) (x ∷ xs) = map_drop f n xs

pub length_map : {X Y : Type 0} (f : X → Y) (xs : List X) → length (map f xs) ≡ length xs
length_map f [] = refl
length_map f (x ∷ xs) = ap suc (length_map f xs)

pub map_flat : {X Y Z : Type 0} (f : X → List Y) (g : Y → Z) (xs : List X) → map g (flat_map f xs) ≡ flat_map (λ x. map g (f x)) xs
map_flat f g [] = refl
map_flat f g (x ∷ xs) = map-append g (f x) (flat_map f xs) ∙ ap (λ rest. map g (f x) ++ rest) (map_flat f g xs)

pub flat_alike : {X Y : Type 0} (f g : X → List Y) (xs : List X) → ((x : X) → f x ≡ g x) → flat_map f xs ≡ flat_map g xs
flat_alike f g [] same = refl
flat_alike f g (x ∷ xs) same = ap (λ (front : List _). front ++ flat_map f xs) (same x) ∙ ap (λ (rest : List _). g x ++ rest) (flat_alike f g xs same)

pub map_option_append : {X Y : Type 0} (f : X → Y) (xs ys : List X) (o : Option X) → xs ≡ option_to_list o ++ ys → map f xs ≡ option_to_list (option_map f o) ++ map f ys
map_option_append f xs ys None is = ap (map f) is
map_option_append f xs ys (Some x) is = ap (map f) is

pub map_rest : {X Y : Type 0} (f : X → Y) (xs ys : List X) → ys ≡ drop 1 xs → map f ys ≡ drop 1 (map f xs)
map_rest f [] ys is = ap (map f) is
map_rest f (x ∷ xs) ys is = ap (map f) is

pub option_to_list_short : {X : Type 0} (o : Option X) → length (option_to_list o) ≤ 1
option_to_list_short None = omega arith
option_to_list_short (Some x) = omega arith

-- what a list of one ends with
pub last_of_one : {X : Type 0} (xs : List X) (last one : X) → one ∷ [] ≡ xs ++ last ∷ [] → last ≡ one
last_of_one [] last one is = cc
last_of_one (x ∷ []) last one is = absurd cc
last_of_one (x ∷ y ∷ xs) last one is = absurd cc
