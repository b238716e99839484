-- What stands among the items of a list, and of a list that is filtered, mapped or searched.
use Rattle.std.proofs.Common.{◌≡◌, ℕ, zero, suc, ◌<◌, Bool, true, false, ◌||◌, cond, List, [], ◌∷◌, length, Contains, refl, sym, ap, ◌∙◌, Option, Some, None, arith, filter, filter_map, slice_get, find}
use Rattle.hs_law_outcome.proofs.Prelude.{slice_index_or, AllByRecursion, cons_option, list_any, same_Some, slice_get_within, IsIn, all_at}
use Rattle.hs_law_outcome.proofs.GotPages.{index_of}

module _ {X : Type 0} where
  pub is_first : (y x : X) (xs : List X) → y ≡ x → IsIn (y ∷ xs) x
  is_first y x xs same = record { place = 0; there = ap Some same }

  pub is_later : (y x : X) (xs : List X) → IsIn xs x → IsIn (y ∷ xs) x
  is_later y x xs h = record { place = suc h.place; there = h.there }

  -- an item is the first one or a later one
  pub at_head : {P : Type 0} (y x : X) (xs : List X) → IsIn (y ∷ xs) x → (y ≡ x → P) → (IsIn xs x → P) → P
  at_head {P = P} y x xs h first later = go h.place h.there
    where
      go : (place : ℕ) → slice_get (y ∷ xs) place ≡ Some x → P
      go zero e = first (same_Some y x e)
      go (suc place) e = later (record { place = place; there = e })

  pub none_in : {P : Type 0} (x : X) → IsIn [] x → P
  none_in x h = let no : None ≡ Some x = h.there in absurd cc

  pub contained : (xs : List X) (x : X) → IsIn xs x → Contains xs x
  contained xs x h = (h.place, slice_get_within xs h.place x h.there, index_of xs h.place x x h.there)

  get_index : (xs : List X) (k : ℕ) (d x : X) → k < length xs → slice_index_or xs k d ≡ x → slice_get xs k ≡ Some x
  get_index [] k d x low h = absurd (omega (arith, low))
  get_index (y ∷ xs) zero d x low h = ap Some h
  get_index (y ∷ xs) (suc k) d x low h = get_index xs k d x (omega (arith, low)) h

  pub from_contained : (xs : List X) (x : X) → Contains xs x → IsIn xs x
  from_contained xs x h = record { place = h.0; there = get_index xs h.0 x x h.1 h.2 }

  pub of_all : (P : X → Type 0) (xs : List X) (x : X) → AllByRecursion P xs → IsIn xs x → P x
  of_all P xs x all h = all_at P xs h.place x all h.there

  -- ---- filtered

  module _ (p : X → Bool) where
    pub in_filter : (xs : List X) (x : X) → IsIn xs x → p x ≡ true → IsIn (filter p xs) x
    in_filter [] x h e = none_in x h
    in_filter (y ∷ xs) x h e = at_head y x xs h (λ same. here (p y) refl same) (λ later. there (p y) (in_filter xs x later e))
      where
        here : (b : Bool) → p y ≡ b → y ≡ x → IsIn (cond b (y ∷ filter p xs) (filter p xs)) x
        here true t same = is_first y x (filter p xs) same
        here false t same = let no : false ≡ true = sym t ∙ ap p same ∙ e in absurd cc

        there : (b : Bool) → IsIn (filter p xs) x → IsIn (cond b (y ∷ filter p xs) (filter p xs)) x
        there true h = is_later y x (filter p xs) h
        there false h = h

    pub from_filter : (xs : List X) (x : X) → IsIn (filter p xs) x → IsIn xs x × (p x ≡ true)
    from_filter [] x h = none_in x h
    from_filter (y ∷ xs) x h = go (p y) refl h (from_filter xs x)
      where
        go : (b : Bool) → p y ≡ b → IsIn (cond b (y ∷ filter p xs) (filter p xs)) x → (IsIn (filter p xs) x → IsIn xs x × (p x ≡ true)) → IsIn (y ∷ xs) x × (p x ≡ true)
        go true t h on = at_head y x (filter p xs) h (λ same. (is_first y x xs same, ap p (sym same) ∙ t)) (λ later. let rest = on later in (is_later y x xs rest.0, rest.1))
        go false t h on = let rest = on h in (is_later y x xs rest.0, rest.1)

    -- ---- searched

    pub from_any : (xs : List X) → list_any p xs ≡ true → (x : X) × IsIn xs x × (p x ≡ true)
    from_any [] h = let no : false ≡ true = h in absurd cc
    from_any (y ∷ xs) h = go (p y) refl h (from_any xs)
      where
        go : (b : Bool) → p y ≡ b → (b || list_any p xs) ≡ true → (list_any p xs ≡ true → (x : X) × IsIn xs x × (p x ≡ true)) → (x : X) × IsIn (y ∷ xs) x × (p x ≡ true)
        go true t h on = (y, is_first y y xs refl, t)
        go false t h on = let rest = on h in (rest.0, is_later y rest.0 xs rest.1, rest.2)

    pub to_any : (xs : List X) (x : X) → IsIn xs x → p x ≡ true → list_any p xs ≡ true
    to_any [] x h e = none_in x h
    to_any (y ∷ xs) x h e = at_head y x xs h (λ same. here (p y) (ap p same ∙ e)) (λ later. there (p y) (to_any xs x later e))
      where
        here : (b : Bool) → b ≡ true → (b || list_any p xs) ≡ true
        here true e = refl
        here false e = let no : false ≡ true = e in absurd cc

        there : (b : Bool) → list_any p xs ≡ true → (b || list_any p xs) ≡ true
        there true e = refl
        there false e = e

    pub from_find : (xs : List X) (x : X) → find p xs ≡ Some x → IsIn xs x × (p x ≡ true)
    from_find [] x h = let no : None ≡ Some x = h in absurd cc
    from_find (y ∷ xs) x h = go (p y) refl h (from_find xs x)
      where
        go : (b : Bool) → p y ≡ b → cond b (Some y) (find p xs) ≡ Some x → (find p xs ≡ Some x → IsIn xs x × (p x ≡ true)) → IsIn (y ∷ xs) x × (p x ≡ true)
        go true t h on = let same = same_Some y x h in (is_first y x xs same, ap p (sym same) ∙ t)
        go false t h on = let rest = on h in (is_later y x xs rest.0, rest.1)

    pub find_first : (xs : List X) → find p xs ≡ slice_get (filter p xs) 0
    find_first [] = refl
    find_first (y ∷ xs) = go (p y) (find_first xs)
      where
        go : (b : Bool) → find p xs ≡ slice_get (filter p xs) 0 → cond b (Some y) (find p xs) ≡ slice_get (cond b (y ∷ filter p xs) (filter p xs)) 0
        go true h = refl
        go false h = h

-- ---- mapped

module _ {X Y : Type 0} (f : X → Option Y) where
  pub in_filter_map : (xs : List X) (x : X) (y : Y) → IsIn xs x → f x ≡ Some y → IsIn (filter_map f xs) y
  in_filter_map [] x y h e = none_in x h
  in_filter_map (first ∷ xs) x y h e = at_head first x xs h (λ same. here (f first) (ap f same ∙ e)) (λ later. there (f first) (in_filter_map xs x y later e))
    where
      here : (o : Option Y) → o ≡ Some y → IsIn (cons_option o (filter_map f xs)) y
      here None e = let no : None ≡ Some y = e in absurd cc
      here (Some z) e = is_first z y (filter_map f xs) (same_Some z y e)

      there : (o : Option Y) → IsIn (filter_map f xs) y → IsIn (cons_option o (filter_map f xs)) y
      there None h = h
      there (Some z) h = is_later z y (filter_map f xs) h

  pub from_filter_map : (xs : List X) (y : Y) → IsIn (filter_map f xs) y → (x : X) × IsIn xs x × (f x ≡ Some y)
  from_filter_map [] y h = none_in y h
  from_filter_map (first ∷ xs) y h = go (f first) refl h (from_filter_map xs y)
    where
      go : (o : Option Y) → f first ≡ o → IsIn (cons_option o (filter_map f xs)) y → (IsIn (filter_map f xs) y → (x : X) × IsIn xs x × (f x ≡ Some y)) → (x : X) × IsIn (first ∷ xs) x × (f x ≡ Some y)
      go None e h on = let rest = on h in (rest.0, is_later first rest.0 xs rest.1, rest.2)
      go (Some z) e h on =
          at_head z y (filter_map f xs) h (λ same. (first, is_first first first xs refl, e ∙ ap Some same)) (λ later. let rest = on later in (rest.0, is_later first rest.0 xs rest.1, rest.2))
