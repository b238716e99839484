-- One value joins a sorted list, and one leaves it.
use Rattle.std.proofs.Common.{cond, ◌≡◌, ℕ, zero, suc, ◌+◌, ◌-◌, ◌<◌, ◌≤◌, Bool, true, false, List, [], ◌∷◌, ◌++◌, length, take, get_or, slice_index, ltb, Some, None, refl, sym, ap, ◌∙◌, arith, subst, ◌==◌, eq-eqb, ⊎_elim}
use Rattle.std.specs.List.{count_by, insert, remove, slice_get, Contains, CopiedTo, SameBelow, SameFrom}
use Rattle.std.specs.List.Sorted.{IsNonDecreasing, IsPartitionPoint}
use Rattle.std.proofs.lemmas.Bool.{cases_lt, cases_eq, cases_Bool, lt-ltb, le-ltb}
use Rattle.std.proofs.lemmas.List.{get_or_default, same_lists, get_or-set_same, get_or-set_other}
use Rattle.std.proofs.Math.ListN.{set, length-set}
use Rattle.std.proofs.lemmas.List.Edits.{length-insert, get_or-insert_below, get_or-insert_at, get_or-insert_above, length-remove, get_or-remove_below, get_or-remove_above}
use Rattle.std.proofs.lemmas.List.Sorted.{IsNonDecreasingBy-insert}
use Rattle.std.proofs.lemmas.List.Sums.{sum_by-cons, sum_by_push, sum_by-insert, sum_by-remove}
use Rattle.std.proofs.lemmas.List.Quantifiers.{all_pairs_remove}
use borrow.Author.Tests.{eqb-true}
use Rattle.hs_auto.specs.Ranks.{StandsSorted, IsPlace}

-- how many pass a test, where those that do stand in front
pub count_partition : (p : ℕ → Bool) (xs : List ℕ) (i : ℕ) → i ≤ length xs → IsPartitionPoint (λ y. p y ≡ true) (λ y. p y ≡ false) xs i → count_by p xs ≡ i
count_partition p [] i in' h = omega arith
count_partition p (x ∷ xs) zero in' h =
    let here : p x ≡ false = h.1 0 x (omega arith) (omega arith) in
    let rest : count_by p xs ≡ 0 = count_partition p xs zero (omega arith) ((λ k d low high. absurd (omega arith)), (λ k d low high. h.1 (suc k) d (omega arith) (omega arith))) in
    sum_by-cons (λ y. cond (p y) 1 0) x xs ∙ rw here (ap (λ n. 0 + n) rest ∙ omega arith)
count_partition p (x ∷ xs) (suc i) in' h =
    let here : p x ≡ true = h.0 0 x (omega arith) (omega arith) in
    let rest : count_by p xs ≡ i = count_partition p xs i (omega arith) ((λ k d low high. h.0 (suc k) d (omega arith) (omega arith)), (λ k d low high. h.1 (suc k) d (omega arith) (omega arith))) in
    sum_by-cons (λ y. cond (p y) 1 0) x xs ∙ rw here (ap (λ n. 1 + n) rest ∙ omega arith)

-- a rising list without its first
rising_rest : (x : ℕ) (xs : List ℕ) → IsNonDecreasing (x ∷ xs) → IsNonDecreasing xs
rising_rest x xs rising j k d le within = rising (suc j) (suc k) d (omega arith) (omega arith)

-- a place in the rest is one further with a lesser value in front
place_behind : (x : ℕ) (xs : List ℕ) (v i : ℕ) → x < v → IsPlace xs v i → IsPlace (x ∷ xs) v (1 + i)
place_behind x xs v i less at = record { within = omega (arith, at.within); below = below; above = above }
  where
    below : (k : ℕ) → k < 1 + i → slice_index (x ∷ xs) k < v
    below zero low = less
    below (suc k) low = at.below k (omega arith)

    above : (k : ℕ) → 1 + i ≤ k → k < length (x ∷ xs) → v ≤ slice_index (x ∷ xs) k
    above zero high in' = absurd (omega arith)
    above (suc k) high in' = at.above k (omega arith) (omega arith)

-- where the first is not less, none is
none_less : (x : ℕ) (xs : List ℕ) (v i : ℕ) → IsNonDecreasing (x ∷ xs) → v ≤ x → IsPlace xs v i → i ≡ 0
none_less x xs v zero rising le at = refl
none_less x xs v (suc i) rising le at =
    let some : 0 < length xs = omega (arith, at.within) in
    let rest : get_or xs 0 0 ≡ slice_index xs 0 = get_or_default xs 0 0 0 some in
    let risen : x ≤ get_or xs 0 0 = rising 0 1 0 (omega arith) (omega arith) in
    absurd (omega (arith, at.below 0 (omega arith), rest, risen))

place_in_front : (x : ℕ) (xs : List ℕ) (v : ℕ) → IsNonDecreasing (x ∷ xs) → v ≤ x → IsPlace (x ∷ xs) v 0
place_in_front x xs v rising le =
    record {
      within = omega arith;
      below = λ k low. absurd (omega arith);
      above = λ k high in'. let risen : x ≤ get_or (x ∷ xs) k 0 = rising 0 k 0 (omega arith) in' in omega (arith, get_or_default (x ∷ xs) k 0 0 in', risen);
    }

-- as many as are less stand in front
pub place_by_count : (xs : List ℕ) (v : ℕ) → IsNonDecreasing xs → IsPlace xs v (count_by (λ y. ltb y v) xs)
place_by_count [] v rising = record { within = omega arith; below = λ k low. absurd (omega arith); above = λ k high in'. absurd (omega arith) }
place_by_count (x ∷ xs) v rising =
    let at : IsPlace xs v (count_by (λ y. ltb y v) xs) = place_by_count xs v (rising_rest x xs rising) in
    ⊎_elim
    (λ (less : x < v).
    let all : count_by (λ y. ltb y v) (x ∷ xs) ≡ 1 + count_by (λ y. ltb y v) xs = sum_by-cons (λ y. cond (ltb y v) 1 0) x xs ∙ rw (lt-ltb x v less) refl in
    subst (IsPlace (x ∷ xs) v) (sym all) (place_behind x xs v (count_by (λ y. ltb y v) xs) less at))
    (λ (not_less : v ≤ x).
    let none : count_by (λ y. ltb y v) xs ≡ 0 = none_less x xs v (count_by (λ y. ltb y v) xs) rising not_less at in
    let all : count_by (λ y. ltb y v) (x ∷ xs) ≡ 0 = sum_by-cons (λ y. cond (ltb y v) 1 0) x xs ∙ rw (le-ltb x v not_less) (ap (λ n. 0 + n) none ∙ omega arith) in
    subst (IsPlace (x ∷ xs) v) (sym all) (place_in_front x xs v rising not_less))
    (cases_lt x v)

-- each element passes the test that all pass
pub count_all : (xs : List ℕ) → count_by (λ x. true) xs ≡ length xs
count_all [] = refl
count_all (x ∷ xs) = sum_by-cons (λ y. 1) x xs ∙ ap (λ n. 1 + n) (count_all xs) ∙ omega arith

-- what is counted is there
pub counted_is_there : (x : ℕ) (xs : List ℕ) → 0 < count_by (λ y. y == x) xs → Contains xs x
counted_is_there x [] some = absurd (omega arith)
counted_is_there x (y ∷ xs) some =
    ⊎_elim (λ (same : y == x ≡ true). (0, omega arith, eqb-true y x same))
    (λ (other : y == x ≡ false).
    let split : count_by (λ z. z == x) (y ∷ xs) ≡ 0 + count_by (λ z. z == x) xs = sum_by-cons (λ z. cond (z == x) 1 0) y xs ∙ rw other refl in
    let rest : Contains xs x = counted_is_there x xs (omega (arith, split, some)) in (suc rest.0, omega (arith, rest.1), rest.2))
    (cases_Bool (y == x))

pub length_sorted : (sorted values : List ℕ) → StandsSorted sorted values → length sorted ≡ length values
length_sorted sorted values order = sym (count_all sorted) ∙ order.counts (λ x. true) ∙ count_all values

-- the place of a value, by how many of a window's values are less
pub place_of_count : (sorted values : List ℕ) (v i : ℕ) → StandsSorted sorted values → i ≡ count_by (λ y. ltb y v) values → IsPlace sorted v i
place_of_count sorted values v i order is = subst (IsPlace sorted v) (order.counts (λ y. ltb y v) ∙ sym is) (place_by_count sorted v order.rising)

-- a value joins at its place
pub sorted_put : (sorted values : List ℕ) (i v : ℕ) → StandsSorted sorted values → IsPlace sorted v i → StandsSorted (insert sorted i v) (v ∷ values)
sorted_put sorted values i v order at =
    record {
      rising =
          IsNonDecreasingBy-insert (λ x. x) sorted i v order.rising at.within
          (λ k d low. omega (arith, get_or_default sorted k d 0 (omega (arith, at.within, low)), at.below k low))
          (λ k d low high. omega (arith, get_or_default sorted k d 0 high, at.above k low high));
      counts =
          λ p.
          sum_by-insert (λ x. cond (p x) 1 0) sorted i v ∙ ap (λ n. n + cond (p v) 1 0) (order.counts p)
          ∙ (let swapped : count_by p values + cond (p v) 1 0 ≡ cond (p v) 1 0 + count_by p values = omega arith in swapped)
          ∙ sym (sum_by-cons (λ x. cond (p x) 1 0) v values);
    }

-- a rising list still rises without the element at i
pub rising_remove : (xs : List ℕ) (i : ℕ) → i < length xs → IsNonDecreasing xs → IsNonDecreasing (remove xs i)
rising_remove xs i in' rising j k d le within =
    ⊎_elim (λ (same : j ≡ k). omega (arith, ap (λ n. get_or (remove xs i) n d) same))
    (λ (apart : j ≡ k → ⊥). all_pairs_remove (λ (a b : ℕ). a ≤ b) xs i in' (λ a b e less inside. rising a b e (omega arith) inside) j k d (omega arith) within)
    (cases_eq j k)

-- the last value leaves from where it stands
pub sorted_drop : (sorted values : List ℕ) (i x : ℕ) → StandsSorted sorted (values ++ x ∷ []) → i < length sorted → get_or sorted i x ≡ x → StandsSorted (remove sorted i) values
sorted_drop sorted values i x order in' at =
    record {
      rising = rising_remove sorted i in' order.rising;
      counts =
          λ p.
          let f : ℕ → ℕ = λ y. cond (p y) 1 0 in
          let less : count_by p (remove sorted i) + f (get_or sorted i x) ≡ count_by p sorted = sum_by-remove f sorted i x in' in
          let this : f (get_or sorted i x) ≡ f x = ap f at in
          let more : count_by p (values ++ x ∷ []) ≡ count_by p values + f x = sum_by_push f values x in
          omega (arith, less, this, more, order.counts p);
    }

-- what leaves a window of this size is its last value, if it has more
pub cut : (size : ℕ) (xs : List ℕ) (x : ℕ) → length xs ≤ size + 1 → slice_get xs size ≡ Some x → xs ≡ take size xs ++ x ∷ []
cut zero [] x few at = cc
cut zero (y ∷ []) x few at = cc
cut zero (y ∷ z ∷ xs) x few at = absurd (omega arith)
cut (suc size) [] x few at = cc
cut (suc size) (y ∷ xs) x few at = ap (λ ys. y ∷ ys) (cut size xs x (omega arith) at)

pub uncut : (size : ℕ) (xs : List ℕ) → slice_get xs size ≡ None → take size xs ≡ xs
uncut zero [] at = refl
uncut zero (y ∷ xs) at = cc
uncut (suc size) [] at = refl
uncut (suc size) (y ∷ xs) at = ap (λ ys. y ∷ ys) (uncut size xs at)

-- a full window's values, without the last one, stay behind the one that comes
pub cut_full : (size v : ℕ) (xs : List ℕ) (x : ℕ) → 0 < size → length xs ≤ size → slice_get (v ∷ xs) size ≡ Some x
    → (kept : List ℕ) × (xs ≡ kept ++ x ∷ []) × (take size (v ∷ xs) ≡ v ∷ kept)
cut_full zero v xs x some few at = absurd (omega arith)
cut_full (suc size) v xs x some few at = (take size xs, cut size xs x (omega arith) at, refl)

-- the last value of a window stands in the sorted list
pub last_is_there : (sorted values : List ℕ) (x : ℕ) → StandsSorted sorted (values ++ x ∷ []) → Contains sorted x
last_is_there sorted values x order =
    let some : count_by (λ y. y == x) (values ++ x ∷ []) ≡ count_by (λ y. y == x) values + 1 =
    sum_by_push (λ y. cond (y == x) 1 0) values x ∙ ap (λ b. count_by (λ y. y == x) values + cond b 1 0) (eq-eqb x x refl) in
    counted_is_there x sorted (omega (arith, some, order.counts (λ y. y == x)))

-- a value that is there stands at its place
pub stands_at : (sorted : List ℕ) (x i : ℕ) → IsNonDecreasing sorted → Contains sorted x → IsPlace sorted x i → (i < length sorted) × (get_or sorted i x ≡ x)
stands_at sorted x i rising there at =
    let k : ℕ = there.0 in
    let within : k < length sorted = there.1 in
    let here : get_or sorted k 0 ≡ x = get_or_default sorted k 0 x within ∙ there.2 in
    ⊎_elim (λ (below : k < i). absurd (omega (arith, at.below k below, here)))
    (λ (above : i ≤ k).
    let inside : i < length sorted = omega arith in
    (inside, (omega (arith, get_or_default sorted i x 0 inside, at.above i (omega arith) inside, rising i k 0 above within, here))))
    (cases_lt k i)

-- a value joins, and the last one leaves
pub sorted_exchange : (sorted values : List ℕ) (to v i x : ℕ) → StandsSorted sorted (values ++ x ∷ []) → IsPlace sorted v to
    → i ≤ length sorted → get_or (insert sorted to v) i x ≡ x → StandsSorted (remove (insert sorted to v) i) (v ∷ values)
sorted_exchange sorted values to v i x order at within here =
    sorted_drop (insert sorted to v) (v ∷ values) i x (sorted_put sorted (values ++ x ∷ []) to v order at)
    (omega (arith, length-insert sorted to v at.within, within)) here

-- what stands behind a value that came
pub behind : (xs : List ℕ) (i y d k : ℕ) → i < k → i ≤ length xs → get_or (insert xs i y) k d ≡ get_or xs (k - 1) d
behind xs i y d k past within = ap (λ n. get_or (insert xs i y) n d) (omega arith) ∙ get_or-insert_above xs i y d (k - 1) (omega arith) within

-- the values from `to` on, up to the one that leaves, have moved up by one
pub moved_up : (xs ys : List ℕ) (from to v : ℕ) → to ≤ from → from < length xs → length ys ≡ length xs → CopiedTo xs ys to (to + 1) (from - to)
    → SameBelow xs ys (to + 1) → SameFrom xs ys (to + 1 + (from - to)) → set ys to v ≡ remove (insert xs to v) (from + 1)
moved_up xs ys from to v le within long moved below above =
    let more : length (insert xs to v) ≡ length xs + 1 = length-insert xs to v (omega arith) in
    let leaves : from + 1 < length (insert xs to v) = omega arith in
    let other : (k d : ℕ) → (k ≡ to → ⊥) → get_or (set ys to v) k d ≡ get_or ys k d = λ k d differs. get_or-set_other ys to k v d differs in
    let front : (k d : ℕ) → k < from + 1 → get_or (insert xs to v) k d ≡ get_or (remove (insert xs to v) (from + 1)) k d =
    λ k d low. sym (get_or-remove_below (insert xs to v) (from + 1) d k low leaves) in
    same_lists (set ys to v) (remove (insert xs to v) (from + 1))
    (omega (arith, length-set ys to v, long, more, length-remove (insert xs to v) (from + 1) leaves))
    (λ k d in'.
    ⊎_elim
    (λ (low : k < to).
    other k d (λ same. omega arith) ∙ below k d (omega arith) ∙ sym (get_or-insert_below xs to v d k low (omega arith)) ∙ front k d (omega arith))
    (λ (rest : to ≤ k).
    ⊎_elim
    (λ (high : from < k).
    other k d (λ same. omega arith) ∙ above k d (omega arith)
    ∙ sym (get_or-remove_above (insert xs to v) (from + 1) d k (omega arith) leaves ∙ get_or-insert_above xs to v d k rest (omega arith)))
    (λ (middle : k ≤ from).
    ⊎_elim
    (λ (past : to < k).
    other k d (λ same. omega arith) ∙ moved k d (omega arith) (omega arith) ∙ ap (λ n. get_or xs n d) (omega arith) ∙ sym (behind xs to v d k past (omega arith)) ∙ front k d (omega arith))
    (λ (not_past : k ≤ to).
    let here : k ≡ to = omega arith in
    subst (λ n. get_or (set ys to v) n d ≡ get_or (remove (insert xs to v) (from + 1)) n d) (sym here)
    (get_or-set_same ys to v d (omega arith) ∙ sym (get_or-insert_at xs to v d (omega arith)) ∙ front to d (omega arith)))
    (cases_lt to k))
    (cases_lt from k))
    (cases_lt k to))

-- the values behind the one that leaves, up to `to`, have moved down by one
pub moved_down : (xs ys : List ℕ) (from to v : ℕ) → from < to → to ≤ length xs → length ys ≡ length xs → CopiedTo xs ys (from + 1) from (to - (from + 1))
    → SameBelow xs ys from → SameFrom xs ys (from + (to - (from + 1))) → set ys (to - 1) v ≡ remove (insert xs to v) from
moved_down xs ys from to v lt within long moved below above =
    let more : length (insert xs to v) ≡ length xs + 1 = length-insert xs to v within in
    let leaves : from < length (insert xs to v) = omega arith in
    let other : (k d : ℕ) → (k ≡ to - 1 → ⊥) → get_or (set ys (to - 1) v) k d ≡ get_or ys k d = λ k d differs. get_or-set_other ys (to - 1) k v d differs in
    let back : (k d : ℕ) → from ≤ k → get_or (insert xs to v) (k + 1) d ≡ get_or (remove (insert xs to v) from) k d =
    λ k d high. sym (get_or-remove_above (insert xs to v) from d k high leaves) in
    same_lists (set ys (to - 1) v) (remove (insert xs to v) from)
    (omega (arith, length-set ys (to - 1) v, long, more, length-remove (insert xs to v) from leaves))
    (λ k d in'.
    ⊎_elim
    (λ (low : k < from).
    other k d (λ same. omega arith) ∙ below k d low
    ∙ sym (get_or-remove_below (insert xs to v) from d k low leaves ∙ get_or-insert_below xs to v d k (omega arith) within))
    (λ (rest : from ≤ k).
    ⊎_elim
    (λ (middle : k + 1 < to).
    other k d (λ same. omega arith) ∙ moved k d rest (omega arith) ∙ ap (λ n. get_or xs n d) (omega arith) ∙ sym (get_or-insert_below xs to v d (k + 1) middle within) ∙ back k d rest)
    (λ (high : to ≤ k + 1).
    ⊎_elim
    (λ (past : to < k + 1).
    other k d (λ same. omega arith) ∙ above k d (omega arith) ∙ sym (get_or-insert_above xs to v d k (omega arith) within) ∙ back k d rest)
    (λ (not_past : k + 1 ≤ to).
    let here : k ≡ to - 1 = omega arith in
    subst (λ n. get_or (set ys (to - 1) v) n d ≡ get_or (remove (insert xs to v) from) n d) (sym here)
    (get_or-set_same ys (to - 1) v d (omega arith) ∙ sym (get_or-insert_at xs to v d within)
    ∙ ap (λ n. get_or (insert xs to v) n d) (omega arith) ∙ back (to - 1) d (omega arith)))
    (cases_lt to (k + 1)))
    (cases_lt (k + 1) to))
    (cases_lt k from))
