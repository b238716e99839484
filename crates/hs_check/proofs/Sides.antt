-- All gives stand beside all draws exactly where each draw stands beside the last stamp before its round and the first behind it.
use Rattle.std.proofs.Common.{◌≡◌, ℕ, zero, suc, ◌+◌, ◌-◌, ◌<◌, ◌≤◌, Bool, true, false, cond, eqb, ltb, List, [], ◌∷◌, length, take, drop, get_or, refl, sym, ap, ◌∙◌, inl, inr, arith}
use Rattle.hs_check.proofs.Prelude.{zip, ◌&&◌, ◌||◌, AllByRecursion, flat_map, range_with_len, list_all, and-true, cases_lt, lt-ltb, le-ltb, ne_eqb, and_parts, and_from, and_right, list_all-append, all_each, Step, log_stamps, rise, rise_above}
use Rattle.std.proofs.lemmas.Bool.{cases_order}
use Rattle.std.proofs.lemmas.Bool.Decides.{nat_tests}
use Rattle.hs_base.proofs.Bools.{and_assoc}
use Rattle.hs_law_journal.proofs.Logs.{above_all}

-- ---- all of all

module _ {A B : Type 0} (f : A → B → Bool) where
  none_fails : (xs : List A) → true ≡ list_all (λ x. true) xs
  none_fails [] = refl
  none_fails (x ∷ xs) = none_fails xs

  parted : (p q : A → Bool) (xs : List A) → list_all (λ x. p x && q x) xs ≡ (list_all p xs && list_all q xs)
  parted p q [] = refl
  parted p q (x ∷ xs) = ap (λ b. (p x && q x) && b) (parted p q xs) ∙ mixed (p x) (q x) (list_all p xs) (list_all q xs)
    where
      mixed : (a b c d : Bool) → ((a && b) && (c && d)) ≡ ((a && c) && (b && d))
      mixed true true c d = refl
      mixed true false true d = refl
      mixed true false false d = refl
      mixed false b c d = refl

  -- first by one and then by the other, or the other way round
  pub all_swapped : (xs : List A) (ys : List B) → list_all (λ x. list_all (λ y. f x y) ys) xs ≡ list_all (λ y. list_all (λ x. f x y) xs) ys
  all_swapped xs [] = sym (none_fails xs)
  all_swapped xs (y ∷ ys) = parted (λ x. f x y) (λ x. list_all (λ y. f x y) ys) xs ∙ ap (λ b. list_all (λ x. f x y) xs && b) (all_swapped xs ys)

module _ {A : Type 0} where
  pub all_alike : (p q : A → Bool) → ((x : A) → p x ≡ q x) → (xs : List A) → list_all p xs ≡ list_all q xs
  all_alike p q same [] = refl
  all_alike p q same (x ∷ xs) = ap (λ b. b && list_all p xs) (same x) ∙ ap (λ b. q x && b) (all_alike p q same xs)

-- ---- one draw beside the passes

-- whether a stamp of a pass is on its side of a draw of a round
abbrev pub beside : (round draw pass stamp : ℕ) → Bool
beside round draw pass stamp = cond (ltb round pass) (ltb draw stamp) (cond (ltb pass round) (ltb stamp draw) true)

abbrev pub stamps_of : List (List Step) → List ℕ
stamps_of passes = flat_map log_stamps passes

module _ (round draw : ℕ) where
  pass_before : (a : ℕ) (stamps : List ℕ) → a < round → list_all (beside round draw a) stamps ≡ list_all (λ s. ltb s draw) stamps
  pass_before a stamps low = all_alike (beside round draw a) (λ s. ltb s draw) (λ s. ap (λ b. cond b (ltb draw s) (cond (ltb a round) (ltb s draw) true)) (le-ltb round a (omega arith)) ∙ ap (λ b. cond b (ltb s draw) true) (lt-ltb a round low)) stamps

  pass_behind : (a : ℕ) (stamps : List ℕ) → round < a → list_all (beside round draw a) stamps ≡ list_all (λ s. ltb draw s) stamps
  pass_behind a stamps high = all_alike (beside round draw a) (λ s. ltb draw s) (λ s. ap (λ b. cond b (ltb draw s) (cond (ltb a round) (ltb s draw) true)) (lt-ltb round a high)) stamps

  pass_within : (a : ℕ) (stamps : List ℕ) → a ≡ round → list_all (beside round draw a) stamps ≡ true
  pass_within a stamps here = all_alike (beside round draw a) (λ s. true) (λ s. ap (λ b. cond b (ltb draw s) (cond (ltb a round) (ltb s draw) true)) (le-ltb round a (omega arith)) ∙ ap (λ b. cond b (ltb s draw) true) (le-ltb a round (omega arith))) stamps ∙ sym (none stamps)
    where
      none : (xs : List ℕ) → true ≡ list_all (λ s. true) xs
      none [] = refl
      none (x ∷ xs) = none xs

  abbrev before : List (List Step) → Bool
  before ps = list_all (λ s. ltb s draw) (stamps_of ps)

  abbrev behind : List (List Step) → Bool
  behind ps = list_all (λ s. ltb draw s) (stamps_of ps)

  abbrev rest_of : ℕ → List (List Step) → Bool
  rest_of a passes = list_all (λ (p : ℕ × List Step). list_all (beside round draw p.0) (log_stamps p.1)) (zip (range_with_len (a + 1) (length passes)) passes)

  -- the passes before and those behind
  pub sides : (a : ℕ) (passes : List (List Step))
      → list_all (λ (p : ℕ × List Step). list_all (beside round draw p.0) (log_stamps p.1)) (zip (range_with_len a (length passes)) passes)
      ≡ (list_all (λ s. ltb s draw) (stamps_of (take (round - a) passes)) && list_all (λ s. ltb draw s) (stamps_of (drop (round + 1 - a) passes)))
  sides a [] = sym (ap (λ (l : List (List Step)). list_all (λ s. ltb s draw) (stamps_of l) && list_all (λ s. ltb draw s) (stamps_of (drop (round + 1 - a) []))) (take_nil (round - a)) ∙ ap (λ (l : List (List Step)). list_all (λ s. ltb draw s) (stamps_of l)) (drop_nil (round + 1 - a)))
    where
      take_nil : (n : ℕ) → take {A = List Step} n [] ≡ []
      take_nil zero = refl
      take_nil (suc n) = refl

      drop_nil : (n : ℕ) → drop {A = List Step} n [] ≡ []
      drop_nil zero = refl
      drop_nil (suc n) = refl
  sides a (pass ∷ passes) =
      elim (cases_order a round) [
        | inl here ↦
            (let none : round - a ≡ 0 = omega (arith, here) in
            let less : round - (a + 1) ≡ 0 = omega (arith, here) in
            let one : round + 1 - a ≡ suc 0 = omega (arith, here) in
            let gone : round + 1 - (a + 1) ≡ 0 = omega (arith, here) in
            ap (λ b. b && rest_of a passes) (pass_within a (log_stamps pass) here) ∙ sides (a + 1) passes
            ∙ ap (λ n. before (take n passes) && behind (drop (round + 1 - (a + 1)) passes)) less
            ∙ ap (λ n. behind (drop n passes)) gone
            ∙ sym (ap (λ n. before (take n (pass ∷ passes)) && behind (drop (round + 1 - a) (pass ∷ passes))) none ∙ ap (λ n. behind (drop n (pass ∷ passes))) one))
        | inr other ↦
            elim other [
              | inl low ↦
                  (let more : round - a ≡ suc (round - (a + 1)) = omega arith in
                  let past : round + 1 - a ≡ suc (round + 1 - (a + 1)) = omega arith in
                  ap (λ b. b && rest_of a passes) (pass_before a (log_stamps pass) low) ∙ ap (λ b. list_all (λ s. ltb s draw) (log_stamps pass) && b) (sides (a + 1) passes)
                  ∙ sym (and_assoc (list_all (λ s. ltb s draw) (log_stamps pass)) (before (take (round - (a + 1)) passes)) (behind (drop (round + 1 - (a + 1)) passes)))
                  ∙ sym (ap (λ b. b && behind (drop (round + 1 - (a + 1)) passes)) (list_all-append (λ s. ltb s draw) (log_stamps pass) (stamps_of (take (round - (a + 1)) passes))))
                  ∙ sym (ap (λ n. before (take n (pass ∷ passes)) && behind (drop (round + 1 - a) (pass ∷ passes))) more ∙ ap (λ n. before (take (suc (round - (a + 1))) (pass ∷ passes)) && behind (drop n (pass ∷ passes))) past))
              | inr high ↦
                  (let none : round - a ≡ 0 = omega arith in
                  let less : round - (a + 1) ≡ 0 = omega arith in
                  let start : round + 1 - a ≡ 0 = omega arith in
                  let gone : round + 1 - (a + 1) ≡ 0 = omega arith in
                  ap (λ b. b && rest_of a passes) (pass_behind a (log_stamps pass) high) ∙ ap (λ b. list_all (λ s. ltb draw s) (log_stamps pass) && b) (sides (a + 1) passes)
                  ∙ ap (λ n. list_all (λ s. ltb draw s) (log_stamps pass) && (before (take n passes) && behind (drop (round + 1 - (a + 1)) passes))) less
                  ∙ ap (λ n. list_all (λ s. ltb draw s) (log_stamps pass) && behind (drop n passes)) gone
                  ∙ sym (list_all-append (λ s. ltb draw s) (log_stamps pass) (stamps_of passes))
                  ∙ sym (ap (λ n. before (take n (pass ∷ passes)) && behind (drop (round + 1 - a) (pass ∷ passes))) none ∙ ap (λ n. behind (drop n (pass ∷ passes))) start))
            ]
      ]

-- ---- stamps that rise

not_none : (n : ℕ) → eqb (suc n) 0 ≡ false
not_none n = ne_eqb (suc n) 0 (λ e. absurd (omega (arith, e)))

rise_rest : (s : ℕ) (stamps : List ℕ) → rise (s ∷ stamps) ≡ true → rise stamps ≡ true
rise_rest s [] e = refl
rise_rest s (t ∷ stamps) e = (and_parts (ltb s t) (rise_above t stamps) e).1

all_low : (d : ℕ) (stamps : List ℕ) → AllByRecursion (λ s. s < d) stamps → list_all (λ s. ltb s d) stamps ≡ true
all_low d [] all = refl
all_low d (s ∷ stamps) all = and_from (ltb s d) (list_all (λ s. ltb s d) stamps) (lt-ltb s d all.0) (all_low d stamps all.1)

all_high : (d : ℕ) (stamps : List ℕ) → AllByRecursion (λ s. d < s) stamps → list_all (λ s. ltb d s) stamps ≡ true
all_high d [] all = refl
all_high d (s ∷ stamps) all = and_from (ltb d s) (list_all (λ s. ltb d s) stamps) (lt-ltb d s all.0) (all_high d stamps all.1)

-- the first of what rises tells of all
pub first_tells : (d : ℕ) (stamps : List ℕ) (n : ℕ) → rise stamps ≡ true → n ≤ length stamps → list_all (λ s. ltb d s) (drop n stamps) ≡ (eqb n (length stamps) || ltb d (get_or stamps n 0))
first_tells d [] zero e few = refl
first_tells d [] (suc n) e few = absurd (omega arith)
first_tells d (s ∷ stamps) zero e few = tells ∙ sym (ap (λ b. b || ltb d s) (ne_eqb 0 (length (s ∷ stamps)) (λ none. absurd (omega (arith, none)))))
  where
    tells : list_all (λ t. ltb d t) (s ∷ stamps) ≡ ltb d s
    tells =
        elim (cases_lt d s) [
          | inl less ↦
              all_high d (s ∷ stamps) (less, all_each (λ t. s < t) (λ t. d < t) stamps (λ t h. omega (arith, h, less)) (above_all s stamps e))
              ∙ sym (lt-ltb d s less)
          | inr past ↦ ap (λ b. b && list_all (λ t. ltb d t) stamps) (le-ltb d s past) ∙ sym (le-ltb d s past)
        ]
first_tells d (s ∷ stamps) (suc n) e few = first_tells d stamps n (rise_rest s stamps e) (omega arith) ∙ ap (λ b. b || ltb d (get_or stamps n 0)) (same_eqb n (length stamps))
  where
    same_eqb : (a b : ℕ) → eqb a b ≡ eqb (suc a) (suc b)
    same_eqb a b = grind (arith, nat_tests)

-- and the last of the first so many tells of these
pub last_tells : (d : ℕ) (stamps : List ℕ) (n : ℕ) → rise stamps ≡ true → n ≤ length stamps → list_all (λ s. ltb s d) (take n stamps) ≡ (eqb n 0 || ltb (get_or stamps (n - 1) 0) d)
last_tells d stamps zero e few = refl
last_tells d [] (suc n) e few = absurd (omega arith)
last_tells d (s ∷ stamps) (suc zero) e few = and-true (ltb s d)
last_tells d (s ∷ stamps) (suc (suc n)) e few =
    let m : suc n - 1 ≡ n = omega arith in
    let k : suc (suc n) - 1 ≡ suc n = omega arith in
    let rest = last_tells d stamps (suc n) (rise_rest s stamps e) (omega arith) ∙ ap (λ b. b || ltb (get_or stamps (suc n - 1) 0) d) (not_none n) ∙ ap (λ j. ltb (get_or stamps j 0) d) m in
    let there : n < length stamps = omega arith in
    tells there rest ∙ sym (ap (λ j. ltb (get_or (s ∷ stamps) j 0) d) k) ∙ sym (ap (λ b. b || ltb (get_or (s ∷ stamps) (suc (suc n) - 1) 0) d) (not_none (suc n)))
  where
    at_of : (xs : List ℕ) (i : ℕ) → i < length xs → AllByRecursion (λ t. s < t) xs → s < get_or xs i 0
    at_of [] i less all = absurd (omega arith)
    at_of (x ∷ xs) zero less all = all.0
    at_of (x ∷ xs) (suc i) less all = at_of xs i (omega arith) all.1

    tells : n < length stamps → list_all (λ t. ltb t d) (take (suc n) stamps) ≡ ltb (get_or stamps n 0) d → (ltb s d && list_all (λ t. ltb t d) (take (suc n) stamps)) ≡ ltb (get_or stamps n 0) d
    tells there rest =
        elim (cases_lt (get_or stamps n 0) d) [
          | inl less ↦
              (let above = at_of stamps n there (above_all s stamps e) in
              and_from (ltb s d) (list_all (λ t. ltb t d) (take (suc n) stamps)) (lt-ltb s d (omega (arith, less, above))) (rest ∙ lt-ltb (get_or stamps n 0) d less) ∙ sym (lt-ltb (get_or stamps n 0) d less))
          | inr past ↦ ap (λ b. ltb s d && b) (rest ∙ le-ltb (get_or stamps n 0) d past) ∙ and_right (ltb s d) false refl ∙ sym (le-ltb (get_or stamps n 0) d past)
        ]
