-- Items put in order by a number: all of the first number, all of the next, and so on. A list that is in order stays as it is.
use Rattle.std.proofs.Common.{◌≡◌, ℕ, zero, suc, ◌+◌, ◌<◌, ◌≤◌, Bool, true, false, cond, eqb, ltb, List, [], ◌∷◌, ◌++◌, length, map, get_or, refl, sym, ap, ◌∙◌, subst, inl, inr, arith}
use Rattle.hs_check_follow.proofs.Prelude.{filter, IsNonDecreasingBy, append-nil, map-append, AllByRecursion, range_with_len, flat_map, eqb-true, eq-eqb, ne_eqb, cases_eq, cases_Bool, ltb-true, ltb-false, filter-append, all_each, all_append, filter_none}
use Rattle.hs_base.proofs.Alls.{all_back}

-- ---- in order

module _ {A : Type 0} (key : A → ℕ) where
  -- those with one number, and those with the numbers of a range
  abbrev pub bucket : ℕ → List A → List A
  bucket s xs = filter (λ x. eqb (key x) s) xs

  abbrev pub buckets : ℕ → ℕ → List A → List A
  buckets a m xs = flat_map (λ s. filter (λ x. eqb (key x) s) xs) (range_with_len a m)

  abbrev pub Sorted : List A → Type 0
  Sorted [] = Unit {0}
  Sorted (x ∷ xs) = AllByRecursion (λ y. key x ≤ key y) xs × Sorted xs

  pub Sorted-append : (b : ℕ) (xs ys : List A) → Sorted xs → AllByRecursion (λ x. key x ≤ b) xs → Sorted ys → AllByRecursion (λ y. b ≤ key y) ys → Sorted (xs ++ ys)
  Sorted-append b [] ys sx low sy high = sy
  Sorted-append b (x ∷ xs) ys sx low sy high =
      let first = low.0 in
      (all_append (λ y. key x ≤ key y) xs ys sx.0 (all_each (λ y. b ≤ key y) (λ y. key x ≤ key y) ys (λ y h. omega (arith, h, first)) high), Sorted-append b xs ys sx.1 low.1 sy high)

  -- what stands before an item has no greater number
  pub before_is_low : (xs : List A) (y : A) (ys : List A) → Sorted (xs ++ y ∷ ys) → AllByRecursion (λ x. key x ≤ key y) xs
  before_is_low [] y ys s = tt
  before_is_low (x ∷ xs) y ys s = ((all_back (λ z. key x ≤ key z) xs (y ∷ ys) s.0).0, before_is_low xs y ys s.1)

  -- ---- buckets of what is in order

  nil_buckets : (a m : ℕ) → buckets a m [] ≡ []
  nil_buckets a zero = refl
  nil_buckets a (suc m) = nil_buckets (a + 1) m

  not_in : (s : ℕ) (x : A) (xs : List A) → (key x ≡ s → ⊥) → bucket s (x ∷ xs) ≡ bucket s xs
  not_in s x xs other = ap (λ b. cond b (x ∷ bucket s xs) (bucket s xs)) (ne_eqb (key x) s other)

  past : (a m : ℕ) (x : A) (ys : List A) → key x < a → buckets a m (x ∷ ys) ≡ buckets a m ys
  past a zero x ys low = refl
  past a (suc m) x ys low =
      ap (λ (l : List A). l ++ buckets (a + 1) m (x ∷ ys)) (not_in a x ys (λ e. omega (arith, e))) ∙ ap (λ (l : List A). bucket a ys ++ l) (past (a + 1) m x ys (omega arith))

  none_here : (a : ℕ) (xs : List A) → AllByRecursion (λ y. a < key y) xs → bucket a xs ≡ []
  none_here a xs all = filter_none (λ x. eqb (key x) a) xs (all_each (λ y. a < key y) (λ y. eqb (key y) a ≡ false) xs (λ y h. ne_eqb (key y) a (λ e. omega (arith, e, h))) all)

  first_stays : (a m : ℕ) (x : A) (ys : List A) → a ≤ key x → key x < a + m → AllByRecursion (λ y. key x ≤ key y) ys → buckets a m (x ∷ ys) ≡ x ∷ buckets a m ys
  first_stays a zero x ys low high all = absurd (omega arith)
  first_stays a (suc m) x ys low high all =
      elim (cases_eq (key x) a) [
        | inl here ↦
            ap (λ b. cond b (x ∷ bucket a ys) (bucket a ys) ++ buckets (a + 1) m (x ∷ ys)) (eq-eqb (key x) a here)
            ∙ ap (λ (l : List A). x ∷ (bucket a ys ++ l)) (past (a + 1) m x ys (omega (arith, here)))
        | inr other ↦
            (let none = none_here a ys (all_each (λ y. key x ≤ key y) (λ y. a < key y) ys (λ y h. omega (arith, h, other)) all) in
            ap (λ (l : List A). l ++ buckets (a + 1) m (x ∷ ys)) (not_in a x ys other ∙ none)
            ∙ first_stays (a + 1) m x ys (omega (arith, other)) (omega arith) all
            ∙ sym (ap (λ (l : List A). x ∷ (l ++ buckets (a + 1) m ys)) none))
      ]

  -- what is in order stays as it is
  pub sorted_stays : (n : ℕ) (xs : List A) → Sorted xs → AllByRecursion (λ x. key x < n) xs → buckets 0 n xs ≡ xs
  sorted_stays n [] s low = nil_buckets 0 n
  sorted_stays n (x ∷ xs) s low = let first = low.0 in first_stays 0 n x xs (omega arith) (omega (arith, first)) s.0 ∙ ap (λ (l : List A). x ∷ l) (sorted_stays n xs s.1 low.1)

  -- what has no number of the range adds nothing
  pub others_add_none : (a m : ℕ) (xs ys : List A) → AllByRecursion (λ y. a + m ≤ key y) ys → buckets a m (xs ++ ys) ≡ buckets a m xs
  others_add_none a zero xs ys high = refl
  others_add_none a (suc m) xs ys high =
      let none = filter_none (λ x. eqb (key x) a) ys (all_each (λ y. a + suc m ≤ key y) (λ y. eqb (key y) a ≡ false) ys (λ y h. ne_eqb (key y) a (λ e. omega (arith, e, h))) high) in
      ap (λ (l : List A). l ++ buckets (a + 1) m (xs ++ ys)) (filter-append (λ x. eqb (key x) a) xs ys ∙ ap (λ (l : List A). bucket a xs ++ l) none ∙ append-nil (bucket a xs))
      ∙ ap (λ (l : List A). bucket a xs ++ l) (others_add_none (a + 1) m xs ys (all_each (λ y. a + suc m ≤ key y) (λ y. (a + 1) + m ≤ key y) ys (λ y h. omega (arith, h)) high))

  -- ---- what is put in order is in order

  all_here : (a : ℕ) (xs : List A) → AllByRecursion (λ x. key x ≡ a) (bucket a xs)
  all_here a [] = tt
  all_here a (x ∷ xs) =
      elim (cases_Bool (eqb (key x) a)) [
        | inl here ↦ subst (λ b. AllByRecursion (λ y. key y ≡ a) (cond b (x ∷ bucket a xs) (bucket a xs))) (sym here) (eqb-true (key x) a here, all_here a xs)
        | inr other ↦ subst (λ b. AllByRecursion (λ y. key y ≡ a) (cond b (x ∷ bucket a xs) (bucket a xs))) (sym other) (all_here a xs)
      ]

  pub same_sorted : (a : ℕ) (xs : List A) → AllByRecursion (λ x. key x ≡ a) xs → Sorted xs
  same_sorted a [] all = tt
  same_sorted a (x ∷ xs) all = let first = all.0 in (all_each (λ y. key y ≡ a) (λ y. key x ≤ key y) xs (λ y h. omega (arith, h, first)) all.1, same_sorted a xs all.1)

  -- the numbers are those of the range
  pub buckets_are_within : (a m : ℕ) (xs : List A) → AllByRecursion (λ x. (a ≤ key x) × (key x < a + m)) (buckets a m xs)
  buckets_are_within a zero xs = tt
  buckets_are_within a (suc m) xs =
      all_append (λ x. (a ≤ key x) × (key x < a + suc m)) (bucket a xs) (buckets (a + 1) m xs)
      (all_each (λ x. key x ≡ a) (λ x. (a ≤ key x) × (key x < a + suc m)) (bucket a xs) (λ x h. (omega (arith, h), omega (arith, h))) (all_here a xs))
      (all_each (λ x. (a + 1 ≤ key x) × (key x < (a + 1) + m)) (λ x. (a ≤ key x) × (key x < a + suc m)) (buckets (a + 1) m xs) (λ x h. (omega (arith, h.0), omega (arith, h.1))) (buckets_are_within (a + 1) m xs))

  pub buckets_are_sorted : (a m : ℕ) (xs : List A) → Sorted (buckets a m xs)
  buckets_are_sorted a zero xs = tt
  buckets_are_sorted a (suc m) xs =
      Sorted-append a (bucket a xs) (buckets (a + 1) m xs) (same_sorted a (bucket a xs) (all_here a xs))
      (all_each (λ x. key x ≡ a) (λ x. key x ≤ a) (bucket a xs) (λ x h. omega (arith, h)) (all_here a xs))
      (buckets_are_sorted (a + 1) m xs)
      (all_each (λ x. (a + 1 ≤ key x) × (key x < (a + 1) + m)) (λ x. a ≤ key x) (buckets (a + 1) m xs) (λ x h. omega (arith, h.0)) (buckets_are_within (a + 1) m xs))

  -- ---- what is sorted, cut at a number

  beyond : (a m : ℕ) (x : A) (ys : List A) → a + m ≤ key x → buckets a m (x ∷ ys) ≡ buckets a m ys
  beyond a zero x ys high = refl
  beyond a (suc m) x ys high =
      ap (λ (l : List A). l ++ buckets (a + 1) m (x ∷ ys)) (not_in a x ys (λ e. omega (arith, e))) ∙ ap (λ (l : List A). bucket a ys ++ l) (beyond (a + 1) m x ys (omega arith))

  -- what is in order and below a number
  pub sorted_cut : (n : ℕ) (xs : List A) → Sorted xs → buckets 0 n xs ≡ filter (λ x. ltb (key x) n) xs
  sorted_cut n [] s = nil_buckets 0 n
  sorted_cut n (x ∷ xs) s =
      elim (cases_Bool (ltb (key x) n)) [
        | inl low ↦
            first_stays 0 n x xs (omega arith) (omega (arith, ltb-true (key x) n low)) s.0 ∙ ap (λ (l : List A). x ∷ l) (sorted_cut n xs s.1)
            ∙ sym (ap (λ b. cond b (x ∷ filter (λ y. ltb (key y) n) xs) (filter (λ y. ltb (key y) n) xs)) low)
        | inr high ↦
            beyond 0 n x xs (omega (arith, ltb-false (key x) n high)) ∙ sorted_cut n xs s.1
            ∙ sym (ap (λ b. cond b (x ∷ filter (λ y. ltb (key y) n) xs) (filter (λ y. ltb (key y) n) xs)) high)
      ]

  same_buckets : (a m : ℕ) (xs ys : List A) → ((s : ℕ) → bucket s xs ≡ bucket s ys) → buckets a m xs ≡ buckets a m ys
  same_buckets a zero xs ys same = refl
  same_buckets a (suc m) xs ys same = ap (λ (l : List A). l ++ buckets (a + 1) m xs) (same a) ∙ ap (λ (l : List A). bucket a ys ++ l) (same_buckets (a + 1) m xs ys same)

  all_by_index : (P : A → Type 0) (xs : List A) → ((k : ℕ) (d : A) → k < length xs → P (get_or xs k d)) → AllByRecursion P xs
  all_by_index P [] h = tt
  all_by_index P (x ∷ xs) h = (h 0 x (omega arith), all_by_index P xs (λ k d less. h (suc k) d (omega arith)))

  pub sorted_from : (xs : List A) → IsNonDecreasingBy key xs → Sorted xs
  sorted_from [] rises = tt
  sorted_from (x ∷ xs) rises =
      (all_by_index (λ y. key x ≤ key y) xs (λ k d less. rises 0 (suc k) d (omega arith) (omega arith)), sorted_from xs (λ i j d le less. rises (suc i) (suc j) d (omega arith) (omega arith)))

  -- a stable sort puts all in order
  pub put_in_order : (n : ℕ) (xs ys : List A) → IsNonDecreasingBy key ys → ((s : ℕ) → bucket s ys ≡ bucket s xs) → buckets 0 n xs ≡ filter (λ y. ltb (key y) n) ys
  put_in_order n xs ys rises same = same_buckets 0 n xs ys (λ s. sym (same s)) ∙ sorted_cut n ys (sorted_from ys rises)

-- numbers of what is mapped
module _ {A B : Type 0} (f : A → B) (key : B → ℕ) where
  filter-map : (p : B → Bool) (xs : List A) → filter p (map f xs) ≡ map f (filter (λ x. p (f x)) xs)
  filter-map p [] = refl
  filter-map p (x ∷ xs) = at (p (f x)) (filter-map p xs)
    where
      at : (b : Bool) → filter p (map f xs) ≡ map f (filter (λ y. p (f y)) xs) → cond b (f x ∷ filter p (map f xs)) (filter p (map f xs)) ≡ map f (cond b (x ∷ filter (λ y. p (f y)) xs) (filter (λ y. p (f y)) xs))
      at true e = ap (λ (l : List B). f x ∷ l) e
      at false e = e

  pub buckets-map : (a m : ℕ) (xs : List A) → buckets key a m (map f xs) ≡ map f (buckets (λ x. key (f x)) a m xs)
  buckets-map a zero xs = refl
  buckets-map a (suc m) xs =
      ap (λ (l : List B). l ++ buckets key (a + 1) m (map f xs)) (filter-map (λ y. eqb (key y) a) xs)
      ∙ ap (λ (l : List B). map f (filter (λ x. eqb (key (f x)) a) xs) ++ l) (buckets-map (a + 1) m xs)
      ∙ sym (map-append f (filter (λ x. eqb (key (f x)) a) xs) (buckets (λ x. key (f x)) (a + 1) m xs))
