-- A entry more, a entry less, and a entry that changes its count.
use Rattle.std.proofs.Common.{cond, ◌≡◌, ◌≢◌, ℕ, suc, ◌+◌, ◌-◌, ◌<◌, ◌≤◌, true, false, List, [], ◌∷◌, ◌++◌, length, get_or, set, refl, sym, ap, ◌∙◌, arith, ◌==◌, eq-eqb, ltb, ⊎_elim, ◌⊎◌}
use Rattle.std.specs.List.{count_by, sum_by, insert, remove, All, AllPairs}
use Rattle.std.specs.List.Sorted.{IsNonDecreasingBy, IsPartitionPoint}
use Rattle.std.proofs.lemmas.Bool.{cases_lt, cases_eq, cases_order, ne_eqb, ltb-true, ltb-false}
use Rattle.std.proofs.lemmas.List.{get_or-set_same, get_or-set_other, length-set, get_or_default}
use Rattle.std.proofs.lemmas.List.Edits.{length-insert, get_or-insert_below, get_or-insert_at, get_or-insert_above, length-remove, get_or-remove_below, get_or-remove_above}
use Rattle.std.proofs.lemmas.List.Elements.{All-set, All-append, All-cons, All-take, All-drop}
use Rattle.std.proofs.lemmas.List.Quantifiers.{all_pairs_remove}
use Rattle.std.proofs.lemmas.List.Sums.{sum_by-cons, sum_by-remove, sum_by_push}
use Rattle.hs_auto.specs.declared.value_counts.ValueCount.{ValueCount}
use Rattle.hs_auto.specs.ValueCounts.{times, total, AreValueCounts, IsPlace}

abbrev pub counted : ℕ → ValueCount → ℕ
counted v entry = cond (entry.value == v) entry.count 0

-- neighbours that rise never fall
pub never_falls : (ts : List ValueCount) → AllPairs (λ (a b : ValueCount). a.value < b.value) ts → IsNonDecreasingBy (λ (t : ValueCount). t.value) ts
never_falls ts rising i j d le within =
    ⊎_elim
    (λ (same : i ≡ j). omega (arith, ap (λ k. (get_or ts k d).value) same))
    (λ (apart : (i < j) ⊎ (j < i)). ⊎_elim (λ (before : i < j). omega (arith, rising i j d before within)) (λ (after : j < i). absurd (omega arith)) apart)
    (cases_order i j)

pub place_from : (ts : List ValueCount) (v i : ℕ) → i ≤ length ts
    → IsPartitionPoint (λ (t : ValueCount). ltb t.value v ≡ true) (λ (t : ValueCount). ltb t.value v ≡ false) ts i → IsPlace ts v i
place_from ts v i within at =
    record {
      within = within;
      below = λ k d low. ltb-true (get_or ts k d).value v (at.0 k d (omega arith) low);
      above = λ k d low high. ltb-false (get_or ts k d).value v (at.1 k d low high);
    }

-- the sum of nothing but zeros
sum_none : (f : ValueCount → ℕ) (ts : List ValueCount) → ((k : ℕ) (d : ValueCount) → k < length ts → f (get_or ts k d) ≡ 0) → sum_by f ts ≡ 0
sum_none f [] zeros = refl
sum_none f (t ∷ ts) zeros =
    let first : f t ≡ 0 = zeros 0 t (omega arith) in
    let rest : sum_by f ts ≡ 0 = sum_none f ts (λ k d within. zeros (suc k) d (omega arith)) in
    let whole = sum_by-cons f t ts in
    omega (arith, first, rest, whole)

other_zero : (t : ValueCount) (v : ℕ) → t.value ≢ v → counted v t ≡ 0
other_zero t v other = ap (λ b. cond b t.count 0) (ne_eqb t.value v other)

own_count : (t : ValueCount) (v : ℕ) → t.value ≡ v → counted v t ≡ t.count
own_count t v own = ap (λ b. cond b t.count 0) (eq-eqb t.value v own)

-- a value that does not stand at its place stands nowhere
pub times_absent : (ts : List ValueCount) (v i : ℕ) → AreValueCounts ts → IsPlace ts v i → ((d : ValueCount) → i < length ts → (get_or ts i d).value ≢ v) → times ts v ≡ 0
times_absent ts v i is place absent =
    sum_none (counted v) ts
    (λ k d within. other_zero (get_or ts k d) v
    (λ same.
    ⊎_elim
    (λ (low : k < i). absurd (omega (arith, place.below k d low, same)))
    (λ (high : i ≤ k).
    ⊎_elim
    (λ (at : i ≡ k). absent d (omega (arith, within, at)) (ap (λ n. (get_or ts n d).value) at ∙ same))
    (λ (apart : i ≡ k → ⊥).
    let more : i < k = omega arith in
    absurd (omega (arith, is.rising i k d more within, place.above i d (omega arith) (omega arith), same)))
    (cases_eq i k))
    (cases_lt k i)))

-- a value that stands at its place stands nowhere else
pub times_present : (ts : List ValueCount) (v i : ℕ) (d : ValueCount) → AreValueCounts ts → IsPlace ts v i → i < length ts → (get_or ts i d).value ≡ v → times ts v ≡ (get_or ts i d).count
times_present ts v i d is place within own =
    let shorter = length-remove ts i within in
    let rest : sum_by (counted v) (remove ts i) ≡ 0 =
    sum_none (counted v) (remove ts i)
    (λ k e inside. other_zero (get_or (remove ts i) k e) v
    (λ same.
    ⊎_elim
    (λ (low : k < i).
    let moved : (get_or (remove ts i) k e).value ≡ (get_or ts k e).value = ap (λ (t : ValueCount). t.value) (get_or-remove_below ts i e k low within) in
    absurd (omega (arith, place.below k e low, same, moved)))
    (λ (high : i ≤ k).
    let moved : (get_or (remove ts i) k e).value ≡ (get_or ts (k + 1) e).value = ap (λ (t : ValueCount). t.value) (get_or-remove_above ts i e k high within) in
    let here : (get_or ts i e).value ≡ v = ap (λ (t : ValueCount). t.value) (get_or_default ts i e d within) ∙ own in
    absurd (omega (arith, is.rising i (k + 1) e (omega arith) (omega arith), here, same, moved)))
    (cases_lt k i))) in
    let whole = sum_by-remove (counted v) ts i d within in
    omega (arith, rest, whole, own_count (get_or ts i d) v own)

-- a value that stands somewhere stands at its place
pub stands_there : (ts : List ValueCount) (v i : ℕ) → AreValueCounts ts → IsPlace ts v i → 0 < times ts v → (i < length ts) × ((d : ValueCount) → (get_or ts i d).value ≡ v)
stands_there ts v i is place some =
    let there : (d : ValueCount) → i < length ts → (get_or ts i d).value ≡ v =
    λ d within.
    ⊎_elim
    (λ (same : (get_or ts i d).value ≡ v). same)
    (λ (other : (get_or ts i d).value ≡ v → ⊥).
    absurd
    (omega (
      arith,
      some,
      times_absent ts v i is place (λ e inside same. other (ap (λ (t : ValueCount). t.value) (get_or_default ts i d e inside) ∙ same)),
    )))
    (cases_eq (get_or ts i d).value v) in
    let within : i < length ts =
    ⊎_elim (λ (inside : i < length ts). inside) (λ (past : length ts ≤ i). absurd (omega (arith, some, times_absent ts v i is place (λ e inside same. absurd (omega arith))))) (cases_lt i (length ts)) in
    (within, λ d. there d within)

-- a new entry in its place
rising_insert : (ts : List ValueCount) (i : ℕ) (y : ValueCount) → AreValueCounts ts → IsPlace ts y.value i → ((d : ValueCount) → i < length ts → (get_or ts i d).value ≢ y.value)
    → AllPairs (λ (a b : ValueCount). a.value < b.value) (insert ts i y)
rising_insert ts i y is place absent a b d before within =
    let longer = length-insert ts i y place.within in
    let value : ℕ → ℕ = λ k. (get_or (insert ts i y) k d).value in
    let old : ℕ → ℕ = λ k. (get_or ts k d).value in
    let low : (k : ℕ) → k < i → value k ≡ old k = λ k less. ap (λ (t : ValueCount). t.value) (get_or-insert_below ts i y d k less place.within) in
    let at : value i ≡ y.value = ap (λ (t : ValueCount). t.value) (get_or-insert_at ts i y d place.within) in
    let high : (k : ℕ) → i ≤ k → value (k + 1) ≡ old k = λ k more. ap (λ (t : ValueCount). t.value) (get_or-insert_above ts i y d k more place.within) in
    let beyond : (k : ℕ) → i ≤ k → k < length ts → y.value < old k =
    λ k more inside.
    ⊎_elim
    (λ (same : i ≡ k).
    let apart : old k ≢ y.value = λ equal. absent d (omega arith) (ap old same ∙ equal) in
    omega (arith, place.above k d more inside, apart))
    (λ (other : i ≡ k → ⊥). omega (arith, is.rising i k d (omega arith) inside, place.above i d (omega arith) (omega arith)))
    (cases_eq i k) in
    let back : (k : ℕ) → i < k → value k ≡ old (k - 1) = λ k more. ap value (let one : k ≡ (k - 1) + 1 = omega arith in one) ∙ high (k - 1) (omega arith) in
    ⊎_elim
    (λ (bl : b < i). omega (arith, low a (omega arith), low b bl, is.rising a b d before (omega (arith, place.within))))
    (λ (bh : i ≤ b).
    ⊎_elim
    (λ (bi : i ≡ b). omega (arith, low a (omega arith), ap value bi, at, place.below a d (omega arith)))
    (λ (bo : i ≡ b → ⊥).
    ⊎_elim
    (λ (al : a < i). omega (arith, low a al, back b (omega arith), place.below a d al, beyond (b - 1) (omega arith) (omega (arith, longer))))
    (λ (ah : i ≤ a).
    ⊎_elim
    (λ (ai : i ≡ a). omega (arith, ap value ai, at, back b (omega arith), beyond (b - 1) (omega arith) (omega (arith, longer))))
    (λ (ao : i ≡ a → ⊥). omega (arith, back a (omega arith), back b (omega arith), is.rising (a - 1) (b - 1) d (omega arith) (omega (arith, longer))))
    (cases_eq i a))
    (cases_lt a i))
    (cases_eq i b))
    (cases_lt b i)

pub counts_insert : (ts : List ValueCount) (i : ℕ) (y : ValueCount) → AreValueCounts ts → IsPlace ts y.value i → ((d : ValueCount) → i < length ts → (get_or ts i d).value ≢ y.value) → 0 < y.count
    → AreValueCounts (insert ts i y)
counts_insert ts i y is place absent some =
    record {
      rising = rising_insert ts i y is place absent;
      positive =
          All-append (λ (t : ValueCount). 0 < t.count) _ _ (All-take (λ (t : ValueCount). 0 < t.count) i ts is.positive)
          (All-cons (λ (t : ValueCount). 0 < t.count) y _ some (All-drop (λ (t : ValueCount). 0 < t.count) i ts is.positive));
    }

-- another count at the same value
pub counts_set : (ts : List ValueCount) (i : ℕ) (y : ValueCount) → AreValueCounts ts → i < length ts → ((d : ValueCount) → (get_or ts i d).value ≡ y.value) → 0 < y.count → AreValueCounts (set ts i y)
counts_set ts i y is within same some =
    record {
      rising =
          λ a b d before inside.
          let value : (k : ℕ) → (get_or (set ts i y) k d).value ≡ (get_or ts k d).value =
          λ k.
          ⊎_elim
          (λ (at : k ≡ i).
          ap (λ n. (get_or (set ts i y) n d).value) at ∙ ap (λ (t : ValueCount). t.value) (get_or-set_same ts i y d within) ∙ sym (same d)
          ∙ ap (λ n. (get_or ts n d).value) (sym at))
          (λ (other : k ≡ i → ⊥). ap (λ (t : ValueCount). t.value) (get_or-set_other ts i k y d other))
          (cases_eq k i) in
          omega (arith, value a, value b, is.rising a b d before (omega (arith, inside, length-set ts i y)));
      positive = All-set (λ (t : ValueCount). 0 < t.count) ts i y some is.positive;
    }

pub counts_remove : (ts : List ValueCount) (i : ℕ) → AreValueCounts ts → i < length ts → AreValueCounts (remove ts i)
counts_remove ts i is within =
    record {
      rising = all_pairs_remove (λ (a b : ValueCount). a.value < b.value) ts i within is.rising;
      positive = All-append (λ (t : ValueCount). 0 < t.count) _ _ (All-take (λ (t : ValueCount). 0 < t.count) i ts is.positive) (All-drop (λ (t : ValueCount). 0 < t.count) (suc i) ts is.positive);
    }

-- one entry counts at most what all count, and all counts at least one each
pub few_counts : (ts : List ValueCount) → All (λ (t : ValueCount). 0 < t.count) ts → length ts ≤ total ts
few_counts [] some = omega arith
few_counts (t ∷ ts) some =
    let first : 0 < t.count = some 0 t (omega arith) in
    let rest : length ts ≤ total ts = few_counts ts (λ k d within. some (suc k) d (omega arith)) in
    let whole = sum_by-cons (λ (x : ValueCount). x.count) t ts in
    omega (arith, first, rest, whole)

-- the counts after a value joined the values, and after their last one left
pub joined_counts : (before after : ℕ → ℕ) (v : ℕ) (values : List ℕ) → ((x : ℕ) → after x ≡ before x + cond (v == x) 1 0)
    → ((x : ℕ) → before x ≡ count_by (λ y. y == x) values) → (x : ℕ) → after x ≡ count_by (λ y. y == x) (v ∷ values)
joined_counts before after v values more are x =
    let whole = sum_by-cons (λ y. cond (y == x) 1 0) v values in
    omega (arith, more x, are x, whole)

pub left_counts : (before after : ℕ → ℕ) (v : ℕ) (values : List ℕ) → ((x : ℕ) → before x ≡ after x + cond (v == x) 1 0)
    → ((x : ℕ) → before x ≡ count_by (λ y. y == x) (values ++ v ∷ [])) → (x : ℕ) → after x ≡ count_by (λ y. y == x) values
left_counts before after v values less are x =
    let whole = sum_by_push (λ y. cond (y == x) 1 0) values v in
    omega (arith, less x, are x, whole)

-- a value that is the last stands there
pub last_counts : (before : ℕ → ℕ) (v : ℕ) (values : List ℕ) → ((x : ℕ) → before x ≡ count_by (λ y. y == x) (values ++ v ∷ [])) → 0 < before v
last_counts before v values are =
    let whole = sum_by_push (λ y. cond (y == v) 1 0) values v in
    let own : cond {A = ℕ} (v == v) 1 0 ≡ 1 = ap (λ b. cond b 1 0) (eq-eqb v v refl) in
    omega (arith, are v, whole, own)
