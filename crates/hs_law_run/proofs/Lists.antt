-- Lists that end with one item more.
use Rattle.std.proofs.Common.{◌≡◌, ◌⊎◌, inl, inr, ℕ, zero, suc, ◌+◌, ◌<◌, ◌≤◌, List, [], ◌∷◌, ◌++◌, length, refl, sym, ap, ◌∙◌, Option, Some, arith, map, slice_get}
use Rattle.hs_law_run.proofs.Prelude.{AllByRecursion, filter_map, filter_map-append}

pub filter_map_last : {X Y : Type 0} (h : X → Option Y) (xs : List X) (x : X) (ys : List Y) → filter_map h (x ∷ []) ≡ ys → filter_map h (xs ++ x ∷ []) ≡ filter_map h xs ++ ys
filter_map_last h xs x ys e = filter_map-append h xs (x ∷ []) ∙ ap (λ last. filter_map h xs ++ last) e

pub all_unmapped : {X Y : Type 0} (f : X → Y) (P : Y → Type 0) (xs : List X) → AllByRecursion P (map f xs) → AllByRecursion (λ x. P (f x)) xs
all_unmapped f P [] all = tt
all_unmapped f P (x ∷ xs) all = (all.0, all_unmapped f P xs all.1)

-- a list with one item more is a list with an item in it: that one, or an earlier one
pub record StandsEarlier {X : Type 0} (xs before : List X) (y : X) (last : X) (behind : List X) : Type 0 where
  pub rest : List X
  pub behind_is : behind ≡ rest ++ last ∷ []
  pub list_is : xs ≡ before ++ y ∷ rest

pub last_or_earlier : {X : Type 0} (xs before behind : List X) (last y : X) → xs ++ last ∷ [] ≡ before ++ y ∷ behind
    → ((behind ≡ []) × (xs ≡ before) × (last ≡ y)) ⊎ StandsEarlier xs before y last behind
last_or_earlier [] [] behind last y h = inl (sym (tail_of h), refl, head_of h)
  where
    tail_of : last ∷ [] ≡ y ∷ behind → [] ≡ behind
    tail_of e = cc

    head_of : last ∷ [] ≡ y ∷ behind → last ≡ y
    head_of e = cc
last_or_earlier [] (b ∷ []) behind last y h = let no : [] ≡ y ∷ behind = tail_of h in absurd cc
  where
    tail_of : last ∷ [] ≡ b ∷ y ∷ behind → [] ≡ y ∷ behind
    tail_of e = cc
last_or_earlier [] (b ∷ c ∷ before) behind last y h = let no : [] ≡ c ∷ before ++ y ∷ behind = tail_of h in absurd cc
  where
    tail_of : last ∷ [] ≡ b ∷ c ∷ before ++ y ∷ behind → [] ≡ c ∷ before ++ y ∷ behind
    tail_of e = cc
last_or_earlier (x ∷ xs) [] behind last y h = inr (record { rest = xs; behind_is = sym (tail_of h); list_is = ap (λ z. z ∷ xs) (head_of h) })
  where
    tail_of : x ∷ xs ++ last ∷ [] ≡ y ∷ behind → xs ++ last ∷ [] ≡ behind
    tail_of e = cc

    head_of : x ∷ xs ++ last ∷ [] ≡ y ∷ behind → x ≡ y
    head_of e = cc
last_or_earlier (x ∷ xs) (b ∷ before) behind last y h = either (last_or_earlier xs before behind last y (tail_of h))
  where
    tail_of : x ∷ xs ++ last ∷ [] ≡ b ∷ before ++ y ∷ behind → xs ++ last ∷ [] ≡ before ++ y ∷ behind
    tail_of e = cc

    head_of : x ∷ xs ++ last ∷ [] ≡ b ∷ before ++ y ∷ behind → x ≡ b
    head_of e = cc

    either : ((behind ≡ []) × (xs ≡ before) × (last ≡ y)) ⊎ StandsEarlier xs before y last behind → ((behind ≡ []) × (x ∷ xs ≡ b ∷ before) × (last ≡ y)) ⊎ StandsEarlier (x ∷ xs) (b ∷ before) y last behind
    either (inl (none, same, is)) = inl (none, ap (λ z. z ∷ xs) (head_of h) ∙ ap (λ rest. b ∷ rest) same, is)
    either (inr s) = inr (record { rest = s.rest; behind_is = s.behind_is; list_is = ap (λ z. z ∷ xs) (head_of h) ∙ ap (λ rest. b ∷ rest) s.list_is })

-- ---- places

pub get_low : {X : Type 0} (xs ys : List X) (i : ℕ) (x : X) → slice_get (xs ++ ys) i ≡ Some x → i < length xs → slice_get xs i ≡ Some x
get_low [] ys i x h low = absurd (omega (arith, low))
get_low (z ∷ xs) ys zero x h low = h
get_low (z ∷ xs) ys (suc i) x h low = get_low xs ys i x h (omega (arith, low))

pub record IsBehind {X : Type 0} (xs ys : List X) (i : ℕ) (x : X) : Type 0 where
  pub place : ℕ
  pub place_is : i ≡ length xs + place
  pub there : slice_get ys place ≡ Some x

pub get_high : {X : Type 0} (xs ys : List X) (i : ℕ) (x : X) → slice_get (xs ++ ys) i ≡ Some x → length xs ≤ i → IsBehind xs ys i x
get_high [] ys i x h high = record { place = i; place_is = omega arith; there = h }
get_high (z ∷ xs) ys zero x h high = absurd (omega (arith, high))
get_high (z ∷ xs) ys (suc i) x h high =
    let s = get_high xs ys i x h (omega (arith, high)) in let is = s.place_is in record { place = s.place; place_is = omega (arith, is); there = s.there }
