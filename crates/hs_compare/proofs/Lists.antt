-- What stands in lists that are joined, filtered or mapped.
use Rattle.std.proofs.Common.{◌≡◌, ℕ, zero, suc, ◌+◌, ◌<◌, Bool, true, false, ◌||◌, cond, List, [], ◌∷◌, ◌++◌, refl, sym, ap, subst, ◌∙◌, Option, Some, None, arith, map, filter, slice_get, find, unwrap_or}
use Rattle.hs_compare.proofs.Prelude.{AllByRecursion, flat_map, range_with_len, list_any, same_Some, IsIn, all_each, is_first}
use Rattle.hs_law_outcome.proofs.Among.{is_later}

module _ {X : Type 0} where
  -- ---- properties of all

  -- what passes a filter has what follows from that
  module _ (P Q : X → Type 0) (p : X → Bool) (on : (x : X) → P x → p x ≡ true → Q x) where
    filtered_case : (x : X) (xs : List X) (b : Bool) → p x ≡ b → P x → AllByRecursion Q xs → AllByRecursion Q (cond b (x ∷ xs) xs)
    filtered_case x xs true e here all = (on x here e, all)
    filtered_case x xs false e here all = all

    pub all_filtered : (xs : List X) → AllByRecursion P xs → AllByRecursion Q (filter p xs)
    all_filtered [] all = tt
    all_filtered (x ∷ xs) all = filtered_case x (filter p xs) (p x) refl all.0 (all_filtered xs all.1)

  -- ---- places

  pub in_front : (xs ys : List X) (x : X) → IsIn xs x → IsIn (xs ++ ys) x
  in_front xs ys x h = record { place = h.place; there = go xs h.place h.there }
    where
      go : (xs : List X) (place : ℕ) → slice_get xs place ≡ Some x → slice_get (xs ++ ys) place ≡ Some x
      go [] place h = let no : None ≡ Some x = h in absurd cc
      go (y ∷ xs) zero h = h
      go (y ∷ xs) (suc place) h = go xs place h

  pub in_back : (xs ys : List X) (x : X) → IsIn ys x → IsIn (xs ++ ys) x
  in_back [] ys x h = h
  in_back (y ∷ xs) ys x h = is_later y x (xs ++ ys) (in_back xs ys x h)

  pub in_flat : {Y : Type 0} (f : Y → List X) (ys : List Y) (y : Y) (x : X) → IsIn ys y → IsIn (f y) x → IsIn (flat_map f ys) x
  in_flat {Y = Y} f ys y x h there = go ys h.place h.there
    where
      go : (ys : List Y) (place : ℕ) → slice_get ys place ≡ Some y → IsIn (flat_map f ys) x
      go [] place h = let no : None ≡ Some y = h in absurd cc
      go (z ∷ ys) zero h = in_front (f z) (flat_map f ys) x (subst (λ (y : Y). IsIn (f y) x) (sym (same_Some z y h)) there)
      go (z ∷ ys) (suc place) h = in_back (f z) (flat_map f ys) x (go ys place h)

  pub in_map : {Y : Type 0} (f : Y → X) (ys : List Y) (y : Y) → IsIn ys y → IsIn (map f ys) (f y)
  in_map {Y = Y} f ys y h = record { place = h.place; there = go ys h.place h.there }
    where
      go : (ys : List Y) (place : ℕ) → slice_get ys place ≡ Some y → slice_get (map f ys) place ≡ Some (f y)
      go [] place h = let no : None ≡ Some y = h in absurd cc
      go (z ∷ ys) zero h = ap (λ (y : Y). Some (f y)) (same_Some z y h)
      go (z ∷ ys) (suc place) h = go ys place h

  in_filter_here : (p : X → Bool) (y x : X) (xs : List X) (b : Bool) → p y ≡ b → y ≡ x → p x ≡ true → IsIn (cond b (y ∷ xs) xs) x
  in_filter_here p y x xs true t same e = is_first y x xs same
  in_filter_here p y x xs false t same e = let no : false ≡ true = sym t ∙ ap p same ∙ e in absurd cc

  in_filter_later : (y x : X) (xs : List X) (b : Bool) → IsIn xs x → IsIn (cond b (y ∷ xs) xs) x
  in_filter_later y x xs true h = is_later y x xs h
  in_filter_later y x xs false h = h

  -- each item of a list stands in it
  pub all_themselves : (xs : List X) → AllByRecursion (IsIn xs) xs
  all_themselves [] = tt
  all_themselves (x ∷ xs) = (is_first x x xs refl, all_each (IsIn xs) (IsIn (x ∷ xs)) xs (λ y h. is_later x y xs h) (all_themselves xs))

  -- ---- searched

  any_case : (p : X → Bool) (x : X) (xs : List X) (b : Bool) → b ≡ true → (b || list_any p xs) ≡ true
  any_case p x xs true e = refl
  any_case p x xs false e = let no : false ≡ true = e in absurd cc

  any_later : (p : X → Bool) (xs : List X) (b : Bool) → list_any p xs ≡ true → (b || list_any p xs) ≡ true
  any_later p xs true e = refl
  any_later p xs false e = e

  found_case : (P : X → Type 0) (x d : X) (rest : Option X) (b : Bool) → P x → P (unwrap_or rest d) → P (unwrap_or (cond b (Some x) rest) d)
  found_case P x d rest true here later = here
  found_case P x d rest false here later = later

  pub found_or : (P : X → Type 0) (p : X → Bool) (xs : List X) (d : X) → AllByRecursion P xs → P d → P (unwrap_or (find p xs) d)
  found_or P p [] d all here = here
  found_or P p (x ∷ xs) d all here = found_case P x d (find p xs) (p x) all.0 (found_or P p xs d all.1 here)

-- ---- ranges

in_range_from : (count start i n : ℕ) → n ≡ start + i → i < count → IsIn (range_with_len start count) n
in_range_from zero start i n e low = absurd (omega (arith, low))
in_range_from (suc count) start zero n e low = is_first start n (range_with_len (start + 1) count) (omega (arith, e))
in_range_from (suc count) start (suc i) n e low = is_later start n (range_with_len (start + 1) count) (in_range_from count (start + 1) i n (omega (arith, e)) (omega (arith, low)))

pub in_range : (start count i n : ℕ) → n ≡ start + i → i < count → IsIn (range_with_len start count) n
in_range start count i n e low = in_range_from count start i n e low
