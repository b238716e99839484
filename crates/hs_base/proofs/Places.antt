-- What stands at a place of a list that is joined, mapped, written or cut.
use Rattle.std.proofs.Common.{◌≡◌, ◌≢◌, ◌⊎◌, inl, inr, ⊎_elim, ℕ, zero, suc, ◌+◌, ◌<◌, List, [], ◌∷◌, ◌++◌, slice_get, Some, None, length, arith, refl, ap, ◌∙◌, sym, map, set, unwrap_or, get_or, option_map, Option, take, drop, zip}
use Rattle.std.specs.List.{range_with_len}
use Rattle.std.proofs.lemmas.Option.{same_Some, slice_get-get_or, slice_get-map}
use lib.ListN.{get_elem?}
use mathlib.Core.Option.{some, some-injective, some-ne-none}

pub get_front : {X : Type 0} (xs ys : List X) (i : ℕ) (x : X) → slice_get xs i ≡ Some x → slice_get (xs ++ ys) i ≡ Some x
get_front [] ys i x h = let no : None ≡ Some x = h in absurd cc
get_front (z ∷ xs) ys zero x h = h
get_front (z ∷ xs) ys (suc i) x h = get_front xs ys i x h

pub get_front_same : {A : Type 0} (xs ys : List A) (i : ℕ) → i < length xs → slice_get (xs ++ ys) i ≡ slice_get xs i
get_front_same [] ys i less = absurd (omega arith)
get_front_same (x ∷ xs) ys zero less = refl
get_front_same (x ∷ xs) ys (suc i) less = get_front_same xs ys i (omega arith)

pub get_mid : {A : Type 0} (front : List A) (x : A) (rest : List A) → slice_get (front ++ x ∷ rest) (length front) ≡ Some x
get_mid [] x rest = refl
get_mid (y ∷ front) x rest = get_mid front x rest

pub get_last : {X : Type 0} (xs : List X) (y : X) → slice_get (xs ++ y ∷ []) (length xs) ≡ Some y
get_last [] y = refl
get_last (x ∷ xs) y = get_last xs y

pub get_behind : {X : Type 0} (xs ys : List X) (i : ℕ) (x : X) → slice_get ys i ≡ Some x → slice_get (xs ++ ys) (length xs + i) ≡ Some x
get_behind [] ys i x h = let same : 0 + i ≡ i = omega arith in ap (slice_get ys) same ∙ h
get_behind (y ∷ xs) ys i x h = let same : suc (length xs) + i ≡ suc (length xs + i) = omega arith in ap (slice_get (y ∷ xs ++ ys)) same ∙ get_behind xs ys i x h

pub get_push_cases : {A : Type 0} (xs : List A) (x y : A) (place : ℕ) → slice_get (xs ++ x ∷ []) place ≡ Some y → (slice_get xs place ≡ Some y) ⊎ ((length xs ≡ place) × (x ≡ y))
get_push_cases [] x y zero at = inr (refl, same_Some x y at)
get_push_cases [] x y (suc place) at = let none : None ≡ Some y = at in absurd cc
get_push_cases (z ∷ xs) x y zero at = inl at
get_push_cases (z ∷ xs) x y (suc place) at = elim (get_push_cases xs x y place at) [ inl h ↦ inl h | inr h ↦ inr (ap suc h.0, h.1) ]

-- an element of a list with one more, and its place
pub elem_push_cases : {A : Type 0} (xs : List A) (y x : A) (i : ℕ) → get_elem? (xs ++ y ∷ []) i ≡ some x → (get_elem? xs i ≡ some x) ⊎ ((i ≡ length xs) × (y ≡ x))
elem_push_cases [] y x zero at = inr (refl, some-injective y x at)
elem_push_cases [] y x (suc i) at = absurd (some-ne-none x (sym at))
elem_push_cases (z ∷ zs) y x zero at = inl at
elem_push_cases (z ∷ zs) y x (suc i) at = ⊎_elim (λ old. inl old) (λ new. inr (ap suc new.0, new.1)) (elem_push_cases zs y x i at)

pub get_there : {X : Type 0} (xs : List X) (i : ℕ) → i < length xs → (x : X) × (slice_get xs i ≡ Some x)
get_there [] i low = absurd (omega (arith, low))
get_there (x ∷ xs) zero low = (x, refl)
get_there (x ∷ xs) (suc i) low = get_there xs i (omega (arith, low))

pub record HasItem {X : Type 0} (xs : List X) (i : ℕ) : Type 0 where
  pub item : X
  pub there : slice_get xs i ≡ Some item

pub get_some : {X : Type 0} (xs : List X) (i : ℕ) → i < length xs → HasItem xs i
get_some [] i low = absurd (omega (arith, low))
get_some (x ∷ xs) zero low = record { item = x; there = refl }
get_some (x ∷ xs) (suc i) low = let s = get_some xs i (omega (arith, low)) in record { item = s.item; there = s.there }

-- an item stands among others
pub record IsIn {X : Type 0} (xs : List X) (x : X) : Type 0 where
  pub place : ℕ
  pub there : slice_get xs place ≡ Some x

pub get_map : {A B : Type 0} (f : A → B) (xs : List A) (n : ℕ) (x : A) → slice_get xs n ≡ Some x → slice_get (map f xs) n ≡ Some (f x)
get_map f [] n x at = let none : None ≡ Some x = at in absurd cc
get_map f (y ∷ xs) zero x at = ap (λ z. Some (f z)) (same_Some y x at)
get_map f (y ∷ xs) (suc n) x at = get_map f xs n x at

-- what stands at a place of a mapped list
pub get_unmap : {A B : Type 0} (f : A → B) (xs : List A) (n : ℕ) (y : B) → slice_get (map f xs) n ≡ Some y → (x : A) × (slice_get xs n ≡ Some x) × (f x ≡ y)
get_unmap f [] n y at = let none : None ≡ Some y = at in absurd cc
get_unmap f (x ∷ xs) zero y at = (x, refl, same_Some (f x) y at)
get_unmap f (x ∷ xs) (suc n) y at = get_unmap f xs n y at

pub unwrap_map : {X Y : Type 0} (f : X → Y) (xs : List X) (i : ℕ) (x : X) (d : Y) → slice_get xs i ≡ Some x → unwrap_or (slice_get (map f xs) i) d ≡ f x
unwrap_map f [] i x d h = let never : None ≡ Some x = h in absurd cc
unwrap_map f (y ∷ xs) zero x d h = ap f (same_Some y x h)
unwrap_map f (y ∷ xs) (suc i) x d h = unwrap_map f xs i x d h

pub get_set : {X : Type 0} (xs : List X) (i : ℕ) (x y : X) → slice_get xs i ≡ Some x → slice_get (set xs i y) i ≡ Some y
get_set [] i x y h = let no : None ≡ Some x = h in absurd cc
get_set (z ∷ xs) zero x y h = refl
get_set (z ∷ xs) (suc i) x y h = get_set xs i x y h

pub get_other : {A : Type 0} (xs : List A) (i j : ℕ) (y : A) → (i ≡ j → ⊥) → slice_get (set xs i y) j ≡ slice_get xs j
get_other [] i j y ne = refl
get_other (z ∷ xs) zero zero y ne = absurd (ne refl)
get_other (z ∷ xs) zero (suc j) y ne = refl
get_other (z ∷ xs) (suc i) zero y ne = refl
get_other (z ∷ xs) (suc i) (suc j) y ne = get_other xs i j y (λ e. ne (ap suc e))

-- what stands at a place after another was written
pub get_set_cases : {A : Type 0} (items : List A) (place other : ℕ) (item item' x : A) → slice_get items place ≡ Some item → slice_get (set items place item') other ≡ Some x
    → ((place ≡ other) × (item' ≡ x)) ⊎ ((place ≡ other → ⊥) × (slice_get items other ≡ Some x))
get_set_cases [] place other item item' x at found = let none : None ≡ Some item = at in absurd cc
get_set_cases (first ∷ items) zero zero item item' x at found = inl (refl, same_Some item' x found)
get_set_cases (first ∷ items) zero (suc other) item item' x at found = inr ((λ e. omega (arith, e)), found)
get_set_cases (first ∷ items) (suc place) zero item item' x at found = inr ((λ e. omega (arith, e)), found)
get_set_cases (first ∷ items) (suc place) (suc other) item item' x at found =
    elim (get_set_cases items place other item item' x at found) [ inl h ↦ inl (ap suc h.0, h.1) | inr h ↦ inr ((λ e. h.0 (omega (arith, e))), h.1) ]

pub unwrap_set : {X : Type 0} (xs : List X) (i : ℕ) (x d : X) → i < length xs → unwrap_or (slice_get (set xs i x) i) d ≡ x
unwrap_set [] i x d h = absurd (omega (arith, h))
unwrap_set (y ∷ xs) zero x d h = refl
unwrap_set (y ∷ xs) (suc i) x d h = unwrap_set xs i x d (omega (arith, h))

pub unwrap_other : {X : Type 0} (xs : List X) (i j : ℕ) (x d : X) → i ≢ j → unwrap_or (slice_get (set xs i x) j) d ≡ unwrap_or (slice_get xs j) d
unwrap_other [] i j x d ne = refl
unwrap_other (y ∷ xs) zero zero x d ne = absurd (ne refl)
unwrap_other (y ∷ xs) zero (suc j) x d ne = refl
unwrap_other (y ∷ xs) (suc i) zero x d ne = refl
unwrap_other (y ∷ xs) (suc i) (suc j) x d ne = unwrap_other xs i j x d (λ e. ne (ap suc e))

pub set_same : {X : Type 0} (xs : List X) (i : ℕ) (x : X) → slice_get xs i ≡ Some x → set xs i x ≡ xs
set_same [] i x at = refl
set_same {X = X} (y ∷ xs) zero x at = ap (λ (z : X). z ∷ xs) (sym (same_Some y x at))
set_same {X = X} (y ∷ xs) (suc i) x at = ap (λ (rest : List X). y ∷ rest) (set_same xs i x at)

pub item_there : {A : Type 0} (items : List A) (place : ℕ) (x : A) → (place < length items) × (x ≡ get_or items place x) → slice_get items place ≡ Some x
item_there items place x h = slice_get-get_or items place x h.0 ∙ ap (λ y. Some y) (sym h.1)

-- the row that was found at a place of rows, where these are seen so
pub row_is : {A X : Type 0} (rows seen : List A) (row_of : A → List X) (place : ℕ) (row : A) → seen ≡ rows → place < length rows → row ≡ get_or seen place row → row_of row ≡ unwrap_or (slice_get (map row_of rows) place) []
row_is {A = A} {X = X} rows seen row_of place row same low is =
    let lent : slice_get rows place ≡ Some (get_or seen place row) = slice_get-get_or rows place row low ∙ ap (λ (l : List A). Some (get_or l place row)) (sym same) in
    let there = slice_get-map row_of rows place ∙ ap (option_map row_of) lent in
    ap row_of is ∙ ap (λ (o : Option (List X)). unwrap_or o []) (sym there)

pub get_take : {A : Type 0} (xs : List A) (n k : ℕ) (x : A) → k < n → slice_get xs k ≡ Some x → slice_get (take n xs) k ≡ Some x
get_take [] n k x low at = let none : None ≡ Some x = at in absurd cc
get_take (y ∷ xs) zero k x low at = absurd (omega arith)
get_take (y ∷ xs) (suc n) zero x low at = at
get_take (y ∷ xs) (suc n) (suc k) x low at = get_take xs n k x (omega (arith, low)) at

pub take_get : {A : Type 0} (xs : List A) (n k : ℕ) (x : A) → slice_get (take n xs) k ≡ Some x → (k < n) × (slice_get xs k ≡ Some x)
take_get [] zero k x at = let none : None ≡ Some x = at in absurd cc
take_get [] (suc n) k x at = let none : None ≡ Some x = at in absurd cc
take_get (y ∷ xs) zero k x at = let none : None ≡ Some x = at in absurd cc
take_get (y ∷ xs) (suc n) zero x at = (omega arith, at)
take_get (y ∷ xs) (suc n) (suc k) x at = let h = take_get xs n k x at in (let low = h.0 in omega (arith, low), h.1)

pub take_more : {A : Type 0} (xs : List A) (k : ℕ) (x : A) → slice_get xs k ≡ Some x → take (suc k) xs ≡ take k xs ++ x ∷ []
take_more [] k x at = let none : None ≡ Some x = at in absurd cc
take_more (y ∷ xs) zero x at = ap (λ z. z ∷ []) (same_Some y x at)
take_more (y ∷ xs) (suc k) x at = ap (λ (l : List _). y ∷ l) (take_more xs k x at)

pub sliced : {X : Type 0} (xs : List X) (from count i : ℕ) (x : X) → slice_get (take count (drop from xs)) i ≡ Some x → (i < count) × (slice_get xs (from + i) ≡ Some x)
sliced [] zero zero i x h = let never : None ≡ Some x = h in absurd cc
sliced [] zero (suc count) i x h = let never : None ≡ Some x = h in absurd cc
sliced [] (suc from) zero i x h = let never : None ≡ Some x = h in absurd cc
sliced [] (suc from) (suc count) i x h = let never : None ≡ Some x = h in absurd cc
sliced (y ∷ xs) zero zero i x h = let never : None ≡ Some x = h in absurd cc
sliced (y ∷ xs) zero (suc count) zero x h = (omega arith, h)
sliced (y ∷ xs) zero (suc count) (suc i) x h =
    let rest = sliced xs zero count i x h in
    let same : 0 + i ≡ i = omega arith in
    let there : 0 + suc i ≡ suc i = omega arith in
    let low = rest.0 in
    (omega (arith, low), ap (slice_get (y ∷ xs)) there ∙ ap (slice_get xs) (sym same) ∙ rest.1)
sliced (y ∷ xs) (suc from) count i x h =
    let rest = sliced xs from count i x h in
    let there : suc from + i ≡ suc (from + i) = omega arith in
    (rest.0, ap (slice_get (y ∷ xs)) there ∙ rest.1)

pub map_set : {X Y : Type 0} (f : X → Y) (xs : List X) (i : ℕ) (x : X) → map f (set xs i x) ≡ set (map f xs) i (f x)
map_set f [] i x = refl
map_set f (y ∷ xs) zero x = refl
map_set f (y ∷ xs) (suc i) x = ap (λ rest. f y ∷ rest) (map_set f xs i x)

-- an item of a list whose items are numbered from a start
pub zipped_at : {X : Type 0} (start : ℕ) (xs : List X) (i : ℕ) (x : X) → slice_get xs i ≡ Some x → slice_get (zip (range_with_len start (length xs)) xs) i ≡ Some (start + i, x)
zipped_at start [] i x h = let no : None ≡ Some x = h in absurd cc
zipped_at start (y ∷ xs) zero x h = let here : start ≡ start + 0 = omega arith in ap (λ (y : _). Some (start, y)) (same_Some y x h) ∙ ap (λ (n : ℕ). Some (n, x)) here
zipped_at start (y ∷ xs) (suc i) x h = let there : start + 1 + i ≡ start + suc i = omega arith in zipped_at (start + 1) xs i x h ∙ ap (λ (n : ℕ). Some (n, x)) there

pub place_at : {A : Type 0} (k : ℕ) (pre : List A) (x : A) (rest : List A) → k ≡ length pre → slice_get (pre ++ x ∷ rest) k ≡ Some x
place_at k [] x rest is = ap (λ n. slice_get (x ∷ rest) n) is
place_at zero (y ∷ pre) x rest is = absurd (omega arith)
place_at (suc k) (y ∷ pre) x rest is = place_at k pre x rest (omega arith)
