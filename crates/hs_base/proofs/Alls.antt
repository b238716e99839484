-- What holds of all items of a list: joined and parted, at a place, written, mapped and filtered.
use Rattle.std.proofs.Common.{◌≡◌, ℕ, zero, suc, ◌+◌, ◌<◌, Bool, true, false, cond, List, [], ◌∷◌, ◌++◌, Option, Some, None, subst, sym, append-nil, refl, slice_get, set, replicate, reverse, drop, map, arith, find, ◌∙◌, All, take, flat_map, AllPairs, option_to_list, filter}
use Rattle.std.specs.List.{AllByRecursion, range_with_len, position_or_len}
use Rattle.std.proofs.lemmas.List.Elements.{All-cons, All-nil}
use Rattle.std.proofs.lemmas.List.Folds.{find_at}
use Rattle.hs_base.proofs.Parts.{reverse_cons}

pub all_append : {X : Type 0} (P : X → Type 0) (xs ys : List X) → AllByRecursion P xs → AllByRecursion P ys → AllByRecursion P (xs ++ ys)
all_append P [] ys a b = b
all_append P (x ∷ xs) ys a b = (a.0, all_append P xs ys a.1 b)

pub all_front : {X : Type 0} (P : X → Type 0) (xs ys : List X) → AllByRecursion P (xs ++ ys) → AllByRecursion P xs
all_front P [] ys all = tt
all_front P (x ∷ xs) ys all = (all.0, all_front P xs ys all.1)

pub all_back : {X : Type 0} (P : X → Type 0) (xs ys : List X) → AllByRecursion P (xs ++ ys) → AllByRecursion P ys
all_back P [] ys all = all
all_back P (x ∷ xs) ys all = all_back P xs ys all.1

pub all_mid : {A : Type 0} (P : A → Type 0) (xs ys : List A) (y : A) → AllByRecursion P (xs ++ y ∷ ys) → P y
all_mid P [] ys y all = all.0
all_mid P (x ∷ xs) ys y all = all_mid P xs ys y all.1

pub all_push : {A : Type 0} (P : A → Type 0) (xs : List A) (x : A) → AllByRecursion P xs → P x → AllByRecursion P (xs ++ x ∷ [])
all_push P [] x all here = (here, tt)
all_push P (y ∷ xs) x all here = (all.0, all_push P xs x all.1 here)

pub all_append_option : {X : Type 0} (P : X → Type 0) (xs : List X) (o : Option X) → AllByRecursion P xs → ((x : X) → o ≡ Some x → P x) → AllByRecursion P (xs ++ option_to_list o)
all_append_option P xs None all each = subst (AllByRecursion P) (sym (append-nil xs)) all
all_append_option P xs (Some x) all each = all_append P xs (x ∷ []) all (each x refl, tt)

pub all_each : {X : Type 0} (P Q : X → Type 0) (xs : List X) → ((x : X) → P x → Q x) → AllByRecursion P xs → AllByRecursion Q xs
all_each P Q [] f all = tt
all_each P Q (x ∷ xs) f all = (f x all.0, all_each P Q xs f all.1)

pub all_each_both : {X : Type 0} (P Q R : X → Type 0) (xs : List X) → ((x : X) → P x → Q x → R x) → AllByRecursion P xs → AllByRecursion Q xs → AllByRecursion R xs
all_each_both P Q R [] on p q = tt
all_each_both P Q R (x ∷ xs) on p q = (on x p.0 q.0, all_each_both P Q R xs on p.1 q.1)

pub all_and : {X : Type 0} (P Q : X → Type 0) (xs : List X) → AllByRecursion P xs → AllByRecursion Q xs → AllByRecursion (λ x. P x × Q x) xs
all_and P Q [] h k = tt
all_and P Q (x ∷ xs) h k = ((h.0, k.0), all_and P Q xs h.1 k.1)

pub all_always : {X : Type 0} (P : X → Type 0) (xs : List X) → ((x : X) → P x) → AllByRecursion P xs
all_always P [] f = tt
all_always P (x ∷ xs) f = (f x, all_always P xs f)

pub all_at : {X : Type 0} (P : X → Type 0) (xs : List X) (k : ℕ) (x : X) → AllByRecursion P xs → slice_get xs k ≡ Some x → P x
all_at P [] k x all is = absurd cc
all_at P (y ∷ xs) zero x all is = let same : y ≡ x = cc in subst P same all.0
all_at P (y ∷ xs) (suc k) x all is = all_at P xs k x all.1 is

pub all_by_place : {X : Type 0} (P : X → Type 0) (xs : List X) → ((i : ℕ) (x : X) → slice_get xs i ≡ Some x → P x) → AllByRecursion P xs
all_by_place P [] each = tt
all_by_place P (x ∷ xs) each = (each 0 x refl, all_by_place P xs (λ i. each (suc i)))

pub all_set : {X : Type 0} (P : X → Type 0) (xs : List X) (i : ℕ) (x : X) → AllByRecursion P xs → P x → AllByRecursion P (set xs i x)
all_set P [] i x all h = tt
all_set P (y ∷ xs) zero x all h = (h, all.1)
all_set P (y ∷ xs) (suc i) x all h = (all.0, all_set P xs i x all.1 h)

pub all_replicate : {X : Type 0} (P : X → Type 0) (n : ℕ) (x : X) → P x → AllByRecursion P (replicate n x)
all_replicate P zero x h = tt
all_replicate P (suc n) x h = (h, all_replicate P n x h)

pub all_reverse : {X : Type 0} (P : X → Type 0) (xs : List X) → AllByRecursion P xs → AllByRecursion P (reverse xs)
all_reverse P [] all = tt
all_reverse P (x ∷ xs) all = subst (AllByRecursion P) (sym (reverse_cons x xs)) (all_append P (reverse xs) (x ∷ []) (all_reverse P xs all.1) (all.0, tt))

pub all_drop : {A : Type 0} (P : A → Type 0) (n : ℕ) (xs : List A) → AllByRecursion P xs → AllByRecursion P (drop n xs)
all_drop P zero xs all = all
all_drop P (suc n) [] all = tt
all_drop P (suc n) (x ∷ xs) all = all_drop P n xs all.1

pub all_map : {X Y : Type 0} (P : Y → Type 0) (f : X → Y) (xs : List X) → AllByRecursion (λ x. P (f x)) xs → AllByRecursion P (map f xs)
all_map P f [] all = tt
all_map P f (x ∷ xs) all = (all.0, all_map P f xs all.1)

pub all_unmap : {X Y : Type 0} (P : Y → Type 0) (f : X → Y) (xs : List X) → AllByRecursion P (map f xs) → AllByRecursion (λ x. P (f x)) xs
all_unmap P f [] all = tt
all_unmap P f (x ∷ xs) all = (all.0, all_unmap P f xs all.1)

pub all_flat_map : {X : Type 0} {Y : Type 0} (P : X → Type 0) (f : Y → List X) (ys : List Y) → ((y : Y) → AllByRecursion P (f y)) → AllByRecursion P (flat_map f ys)
all_flat_map P f [] each = tt
all_flat_map P f (y ∷ ys) each = all_append P (f y) (flat_map f ys) (each y) (all_flat_map P f ys each)

pub all_flat_range : {X : Type 0} (P : X → Type 0) (f : ℕ → List X) (start count : ℕ) → ((n : ℕ) → n < start + count → AllByRecursion P (f n)) → AllByRecursion P (flat_map f (range_with_len start count))
all_flat_range P f start zero each = tt
all_flat_range P f start (suc count) each =
    let here : start < start + suc count = omega arith in
    all_append P (f start) (flat_map f (range_with_len (start + 1) count)) (each start here)
    (all_flat_range P f (start + 1) count (λ n h. let below : n < start + suc count = omega (arith, h) in each n below))

pub all_filter : {X : Type 0} (P : X → Type 0) (test : X → Bool) (xs : List X) → AllByRecursion P xs → AllByRecursion P (filter test xs)
all_filter P test [] all = tt
all_filter P test (x ∷ xs) all = at (test x) (all_filter P test xs all.1)
  where
    at : (b : Bool) → AllByRecursion P (filter test xs) → AllByRecursion P (cond b (x ∷ filter test xs) (filter test xs))
    at true rest = (all.0, rest)
    at false rest = rest

pub all_find : {X : Type 0} (P : X → Type 0) (p : X → Bool) (xs : List X) (x : X) → AllByRecursion P xs → find p xs ≡ Some x → P x
all_find P p xs x all h = all_at P xs (position_or_len p xs) x all (sym (find_at p xs) ∙ h)

pub pairs_head : {X : Type 0} (R : X → X → Type 0) (x : X) (xs : List X) → AllPairs R (x ∷ xs) → All (R x) xs
pairs_head R x xs h = λ k d lt. h 0 (suc k) d (omega arith) (omega arith)

pub pairs_tail : {X : Type 0} (R : X → X → Type 0) (x : X) (xs : List X) → AllPairs R (x ∷ xs) → AllPairs R xs
pairs_tail R x xs h = λ i j d lt within. h (suc i) (suc j) d (omega arith) (omega arith)

pub all_take : {X : Type 0} (P : X → Type 0) (n : ℕ) (xs : List X) → AllByRecursion P xs → AllByRecursion P (take n xs)
all_take P zero xs all = tt
all_take P (suc n) [] all = tt
all_take P (suc n) (x ∷ xs) all = (all.0, all_take P n xs all.1)

-- the same as a function of the place
pub all_everywhere : {X : Type 0} (P : X → Type 0) (xs : List X) → AllByRecursion P xs → (i : ℕ) (x : X) → slice_get xs i ≡ Some x → P x
all_everywhere P xs all i x is = all_at P xs i x all is

-- one property follows from another one
pub all_weaker : {X : Type 0} (P Q : X → Type 0) → ((x : X) → P x → Q x) → (xs : List X) → AllByRecursion P xs → AllByRecursion Q xs
all_weaker P Q f xs all = all_each P Q xs f all

pub all_mapped : {X Y : Type 0} (f : X → Y) (P : Y → Type 0) (xs : List X) → AllByRecursion (λ x. P (f x)) xs → AllByRecursion P (map f xs)
all_mapped f P xs all = all_map P f xs all

pub all_one : {X : Type 0} (P : X → Type 0) (x : X) → P x → All P (x ∷ [])
all_one P x h = All-cons P x [] h (All-nil P)
