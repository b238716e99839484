-- So many numbers are the numbers from 0 on, each once, exactly where all of them are below their count and none comes twice.
use Rattle.std.proofs.Common.{◌≡◌, ℕ, zero, suc, ◌+◌, ◌<◌, ◌≤◌, Bool, true, false, cond, eqb, ltb, List, [], ◌∷◌, length, get_or, set, take, refl, sym, ap, ◌∙◌, inl, inr, arith}
use Rattle.hs_check_follow.proofs.Prelude.{count_by, range_with_len, list_all, eqb-true, eq-eqb, ne_eqb, cases_eq, cases_lt, false_from_ne_true, true≢false, lt-ltb, le-ltb, get_or-set_same, get_or-set_other, count_by_more_yes, count_by-le-length, one_if, count_cons, list_all_range, are_numbered}
use Rattle.std.proofs.lemmas.Bool.Decides.{nat_tests}
use Rattle.std.proofs.lemmas.List.Sums.{count_by_more_no, sum_by-take-le}
use Rattle.hs_base.proofs.Counts.{none_below_zero}
use Rattle.hs_check_follow.proofs.Ranges.{one_fails, each_holds}

-- ---- sums below a number

abbrev pub total : (ℕ → ℕ) → ℕ → ℕ
total f zero = 0
total f (suc n) = total f n + f n

total_few : (f : ℕ → ℕ) (n : ℕ) → ((s : ℕ) → s < n → f s ≤ 1) → total f n ≤ n
total_few f zero few = omega arith
total_few f (suc n) few = let a = total_few f n (λ s less. few s (omega arith)) in let b = few n (omega arith) in omega (arith, a, b)

ones : (f : ℕ → ℕ) (n : ℕ) → ((s : ℕ) → s < n → f s ≤ 1) → total f n ≡ n → (s : ℕ) → s < n → f s ≡ 1
ones f zero few whole s less = absurd (omega arith)
ones f (suc n) few whole s less =
    let a = total_few f n (λ s less. few s (omega arith)) in
    let b = few n (omega arith) in
    elim (cases_eq s n) [ inl same ↦ let e = ap f same in omega (arith, e, a, b, whole) | inr other ↦ ones f n (λ s less. few s (omega arith)) (omega (arith, a, b, whole)) s (omega (arith, other)) ]

all_ones : (f : ℕ → ℕ) (n : ℕ) → ((s : ℕ) → s < n → f s ≡ 1) → total f n ≡ n
all_ones f zero one = refl
all_ones f (suc n) one = let a = all_ones f n (λ s less. one s (omega arith)) in let b = one n (omega arith) in omega (arith, a, b)

-- ---- counts

one_more : (x n : ℕ) → cond (ltb x n) 1 0 + cond (eqb x n) 1 0 ≡ cond (ltb x (suc n)) 1 0
one_more x n = grind (arith, nat_tests)

below_more : (n : ℕ) (xs : List ℕ) → count_by (λ t. ltb t n) xs + count_by (λ t. eqb t n) xs ≡ count_by (λ t. ltb t (suc n)) xs
below_more n [] = refl
below_more n (x ∷ xs) =
    omega (arith, count_cons (λ t. ltb t n) x xs, count_cons (λ t. eqb t n) x xs, count_cons (λ t. ltb t (suc n)) x xs, one_more x n, below_more n xs)

-- each number below n is counted at itself
pub total_is : (n : ℕ) (xs : List ℕ) → total (λ s. count_by (λ t. eqb t s) xs) n ≡ count_by (λ t. ltb t n) xs
total_is zero xs = sym (none_below_zero xs)
total_is (suc n) xs = ap (λ k. k + count_by (λ t. eqb t n) xs) (total_is n xs) ∙ below_more n xs

some_fails : (p : ℕ → Bool) (xs : List ℕ) (i x : ℕ) → i < length xs → get_or xs i 0 ≡ x → p x ≡ false → count_by p xs < length xs
some_fails p [] i x less is fails = absurd (omega arith)
some_fails p (y ∷ xs) zero x less is fails =
    let e = count_cons p y xs in let no : one_if (p y) ≡ 0 = ap one_if (ap p is ∙ fails) in omega (arith, e, no, count_by-le-length p xs)
some_fails p (y ∷ xs) (suc i) x less is fails = let e = count_cons p y xs in let few = at_most (p y) in omega (arith, e, few, some_fails p xs i x (omega arith) is fails)
  where
    at_most : (b : Bool) → cond b 1 0 ≤ 1
    at_most true = omega arith
    at_most false = omega arith

-- ---- numbered or not

module _ (xs : List ℕ) where
  -- none is too high, and none comes twice
  pub numbered : count_by (λ t. ltb t (length xs)) xs ≡ length xs → ((s : ℕ) → s < length xs → count_by (λ t. eqb t s) xs ≤ 1) → true ≡ are_numbered xs
  numbered low few =
      let once = ones (λ s. count_by (λ t. eqb t s) xs) (length xs) few (total_is (length xs) xs ∙ low) in
      sym (list_all_range (λ s. eqb (count_by (λ t. eqb t s) xs) 1) 0 (length xs) (λ s low high. eq-eqb (count_by (λ t. eqb t s) xs) 1 (once s (omega arith))))

  -- one is too high
  pub too_high : (i x : ℕ) → i < length xs → get_or xs i 0 ≡ x → length xs ≤ x → false ≡ are_numbered xs
  too_high i x less is high =
      let count : ℕ → ℕ = λ s. count_by (λ t. eqb t s) xs in
      sym (false_from_ne_true (are_numbered xs) (λ all.
      let whole = all_ones count (length xs) (λ s below. eqb-true (count s) 1 (each_holds (λ s. eqb (count_by (λ t. eqb t s) xs) 1) (length xs) s all below)) in
      let few = some_fails (λ t. ltb t (length xs)) xs i x less is (le-ltb x (length xs) high) in
      let same = total_is (length xs) xs in
      omega (arith, whole, few, same)))

  -- one comes twice
  pub twice : (i s : ℕ) → s < length xs → 2 ≤ count_by (λ t. eqb t s) (take i xs) → false ≡ are_numbered xs
  twice i s low many =
      let more = sum_by-take-le (λ t. cond (eqb t s) 1 0) xs i in
      sym (one_fails (λ s. eqb (count_by (λ t. eqb t s) xs) 1) (length xs) s low (ne_eqb (count_by (λ t. eqb t s) xs) 1 (λ e. omega (arith, e, more, many))))

-- ---- marks

-- the next number, marked: each mark still says how often its number came
pub marked : (xs : List ℕ) (seen : List Bool) (i : ℕ) → i < length xs → length seen ≡ length xs → get_or xs i 0 < length seen → get_or seen (get_or xs i 0) false ≡ false
    → ((s : ℕ) → s < length xs → count_by (λ t. eqb t s) (take i xs) ≡ one_if (get_or seen s false))
    → (s : ℕ) → s < length xs → count_by (λ t. eqb t s) (take (i + 1) xs) ≡ one_if (get_or (set seen (get_or xs i 0) true) s false)
marked xs seen i less many low new counts s below =
    let x = get_or xs i 0 in
    elim (cases_eq x s) [
      | inl same ↦
          (let more = count_by_more_yes (λ t. eqb t s) xs i 0 less (eq-eqb x s same) in
          let before = counts s below in
          let was : get_or seen s false ≡ false = sym (ap (λ k. get_or seen k false) same) ∙ new in
          let zero : one_if (get_or seen s false) ≡ 0 = ap one_if was in
          let now : get_or (set seen x true) s false ≡ true = sym (ap (λ k. get_or (set seen x true) k false) same) ∙ get_or-set_same seen x true false low in
          let one : one_if (get_or (set seen x true) s false) ≡ 1 = ap one_if now in
          omega (arith, more, before, zero, one))
      | inr other ↦
          (let more = count_by_more_no (λ t. eqb t s) xs i 0 less (ne_eqb x s other) in
          more ∙ counts s below ∙ sym (ap one_if (get_or-set_other seen x s true false (λ e. other (sym e)))))
    ]

-- ---- no number comes twice

beside : (x n s : ℕ) → n ≤ s → one_if (ltb x n) + one_if (eqb x s) ≤ 1
beside x n s high = grind (arith, nat_tests)

apart : (n s : ℕ) (xs : List ℕ) → n ≤ s → count_by (λ t. ltb t n) xs + count_by (λ t. eqb t s) xs ≤ length xs
apart n s [] high = omega arith
apart n s (x ∷ xs) high =
    let a = count_cons (λ t. ltb t n) x xs in
    let b = count_cons (λ t. eqb t s) x xs in
    let one = beside x n s high in
    let rest = apart n s xs high in
    omega (arith, a, b, one, rest)

pub numbered_once : (xs : List ℕ) → are_numbered xs ≡ true → (s : ℕ) → count_by (λ t. eqb t s) xs ≤ 1
numbered_once xs all s =
    let count : ℕ → ℕ = λ s. count_by (λ t. eqb t s) xs in
    let each : (s : ℕ) → s < length xs → count s ≡ 1 = λ s below. eqb-true (count s) 1 (each_holds (λ s. eqb (count_by (λ t. eqb t s) xs) 1) (length xs) s all below) in
    elim (cases_lt s (length xs)) [
      | inl below ↦ (let e = each s below in omega (arith, e))
      | inr high ↦
          (let whole = all_ones count (length xs) each in
          let same = total_is (length xs) xs in
          let few = apart (length xs) s xs high in
          omega (arith, whole, same, few))
    ]
