-- Items by their stamps are the same items: where all stamps are below the bound, whatever is counted of them is counted as before.
use Rattle.std.proofs.Common.{◌≡◌, ℕ, zero, suc, ◌+◌, Bool, true, false, ◌&&◌, cond, List, [], ◌∷◌, ◌++◌, refl, sym, ap, ◌∙◌, arith, map, count_by, append-nil, eqb, ltb, ltb-true}
use Rattle.hs_law_outcome.proofs.Prelude.{AllByRecursion, flat_map, range_with_len, one_if, count_cons, count_append, by_stamp}
use Rattle.hs_law_outcome.proofs.Stamps.{below_case, with_stamp, range_split, flat_both}

sum_case : (a b c q : Bool) → one_if a ≡ one_if b + one_if c → one_if (a && q) ≡ one_if (b && q) + one_if (c && q)
sum_case true true true q h = absurd (omega (arith, h))
sum_case true true false q h = omega arith
sum_case true false true q h = omega arith
sum_case true false false q h = absurd (omega (arith, h))
sum_case false true true q h = absurd (omega (arith, h))
sum_case false true false q h = absurd (omega (arith, h))
sum_case false false true q h = absurd (omega (arith, h))
sum_case false false false q h = refl

module _ {A : Type 0} (stamp : A → ℕ) (p : A → Bool) where
  abbrev below : ℕ → A → Bool
  below k x = ltb (stamp x) k && p x

  kept_case : (x : A) (kept : List A) (b : Bool) → count_by p (cond b (x ∷ kept) kept) ≡ one_if (b && p x) + count_by p kept
  kept_case x kept true = count_cons p x kept
  kept_case x kept false = omega arith

  one_more : (k : ℕ) (items : List A) → count_by (below (k + 1)) items ≡ count_by (below k) items + count_by p (with_stamp stamp items k)
  one_more k [] = refl
  one_more k (x ∷ items) =
      let a = count_cons (below (k + 1)) x items in
      let b = count_cons (below k) x items in
      let c = kept_case x (with_stamp stamp items k) (eqb (stamp x) k) in
      let parts = below_case (stamp x) k (ltb (stamp x) (k + 1)) (ltb (stamp x) k) (eqb (stamp x) k) refl refl refl in
      let here = sum_case (ltb (stamp x) (k + 1)) (ltb (stamp x) k) (eqb (stamp x) k) (p x) parts in
      let rest = one_more k items in
      omega (arith, a, b, c, here, rest)

  none_case : (x : A) (b : Bool) → ltb (stamp x) 0 ≡ b → one_if (b && p x) ≡ 0
  none_case x true e = let low = ltb-true (stamp x) 0 e in absurd (omega (arith, low))
  none_case x false e = refl

  none_low : (items : List A) → count_by (below 0) items ≡ 0
  none_low [] = refl
  none_low (x ∷ items) =
      let first = count_cons (below 0) x items in
      let here = none_case x (ltb (stamp x) 0) refl in
      let rest = none_low items in
      omega (arith, first, here, rest)

  counted_to : (k : ℕ) (items : List A) → count_by p (flat_map (with_stamp stamp items) (range_with_len 0 k)) ≡ count_by (below k) items
  counted_to zero items = sym (none_low items)
  counted_to (suc k) items =
      let next : suc k ≡ k + 1 = omega arith in
      let at : 0 + k ≡ k = omega arith in
      let front = flat_map (with_stamp stamp items) (range_with_len 0 k) in
      let cut : flat_map (with_stamp stamp items) (range_with_len 0 (suc k)) ≡ front ++ with_stamp stamp items k =
      ap (λ n. flat_map (with_stamp stamp items) (range_with_len 0 n)) next ∙ ap (flat_map (with_stamp stamp items)) (range_split stamp 0 k 0)
      ∙ flat_both stamp (with_stamp stamp items) (range_with_len 0 k) ((0 + k) ∷ []) ∙ ap (λ rest. front ++ rest) (append-nil (with_stamp stamp items (0 + k)) ∙ ap (with_stamp stamp items) at)
      in
      let both = count_append p front (with_stamp stamp items k) in
      let so_far = counted_to k items in
      let more = one_more k items in
      let whole = ap (λ n. count_by (below n) items) next in
      let cut_count = ap (count_by p) cut in
      omega (arith, both, so_far, more, whole, cut_count)

  all_low : (k : ℕ) (items : List A) → AllByRecursion (λ s. ltb s k ≡ true) (map stamp items) → count_by (below k) items ≡ count_by p items
  all_low k [] all = refl
  all_low k (x ∷ items) all =
      let a = count_cons (below k) x items in
      let b = count_cons p x items in
      let here = ap (λ b. one_if (b && p x)) all.0 in
      let rest = all_low k items all.1 in
      omega (arith, a, b, here, rest)

  pub by_stamp_counts : (k : ℕ) (items : List A) → AllByRecursion (λ s. ltb s k ≡ true) (map stamp items) → count_by p (by_stamp stamp k items) ≡ count_by p items
  by_stamp_counts k items all = counted_to k items ∙ all_low k items all
