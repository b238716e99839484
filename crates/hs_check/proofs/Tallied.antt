-- How many operations are of each round, counted one by one, and how many are of the first rounds together.
use Rattle.std.proofs.Common.{◌≡◌, ℕ, zero, suc, ◌+◌, ◌-◌, ◌*◌, ◌/◌, ◌<◌, ◌≤◌, Bool, cond, eqb, ltb, leb, min, List, [], ◌∷◌, length, map, take, set, get_or, sum, refl, sym, ap, ◌∙◌, inl, inr, arith}
use Rattle.hs_check.proofs.Prelude.{count_by, ◌&&◌, range_with_len, list_all, eq-eqb, ne_eqb, cases_eq, cases_lt, lt-ltb, le-ltb, length-take-le, take_all, count_by-le-length, sum_by-cons, count_map, one_if, MAX_TAKEN, sent_in, enough_at}
use Rattle.std.proofs.Math.Nat.{div-lt_iff_lt-mul}
use Rattle.std.proofs.lemmas.List.{get_or-set_same, get_or-set_other, get_or_past}
use Rattle.std.proofs.lemmas.List.Sums.{count_by_more_yes, count_by_more_no, sum_by_more}
use Rattle.hs_check_follow.proofs.Numbered.{total, total_is}

-- ---- one more

module _ (stride : ℕ) (numbers tally : List ℕ) (rounds i : ℕ) (less : i < length numbers) (many : length tally ≡ rounds) (each : (round : ℕ) → round < rounds → get_or tally round 0 ≡ sent_in stride (take i numbers) round) where
  pub tallied : (round : ℕ) → round < rounds → get_or (set tally (get_or numbers i 0 / stride) (get_or tally (get_or numbers i 0 / stride) 0 + 1)) round 0 ≡ sent_in stride (take (i + 1) numbers) round
  tallied round low =
      let r = get_or numbers i 0 / stride in
      elim (cases_eq round r) [
        | inl same ↦
            (let now : get_or (set tally r (get_or tally r 0 + 1)) round 0 ≡ get_or tally r 0 + 1 =
            ap (λ k. get_or (set tally r (get_or tally r 0 + 1)) k 0) same ∙ get_or-set_same tally r (get_or tally r 0 + 1) 0 (omega (arith, many, low, same)) in
            let was : get_or tally r 0 ≡ sent_in stride (take i numbers) round = ap (λ k. get_or tally k 0) (sym same) ∙ each round low in
            let more = count_by_more_yes (λ number. eqb (number / stride) round) numbers i 0 less (eq-eqb r round (sym same)) in
            omega (arith, now, was, more))
        | inr other ↦
            (let now = get_or-set_other tally r round (get_or tally r 0 + 1) 0 other in
            let more = count_by_more_no (λ number. eqb (number / stride) round) numbers i 0 less (ne_eqb r round (λ e. other (sym e))) in
            now ∙ each round low ∙ sym more)
      ]

  pub tally_few : (r : ℕ) → get_or tally r 0 ≤ length numbers
  tally_few r =
      elim (cases_lt r rounds) [
        | inl low ↦ (let e = each r low in let few = count_by-le-length (λ number. eqb (number / stride) r) (take i numbers) in let short = length-take-le i numbers (omega arith) in omega (arith, e, few, short))
        | inr high ↦ (let e = get_or_past tally r 0 (omega (arith, many, high)) in omega (arith, e))
      ]

-- ---- the first rounds together

sum_total : (f : ℕ → ℕ) (tally : List ℕ) (n : ℕ) → n ≤ length tally → ((s : ℕ) → s < n → get_or tally s 0 ≡ f s) → sum (take n tally) ≡ total f n
sum_total f tally zero few each = refl
sum_total f tally (suc n) few each =
    let one : suc n ≡ n + 1 = omega arith in
    let more = sum_by_more (λ x. x) tally n 0 (omega arith) in
    let rest = sum_total f tally n (omega arith) (λ s low. each s (omega arith)) in
    let last = each n (omega arith) in
    ap (λ k. sum (take k tally)) one ∙ more ∙ omega (arith, rest, last)

count_congr : (p q : ℕ → Bool) (xs : List ℕ) → ((x : ℕ) → p x ≡ q x) → count_by p xs ≡ count_by q xs
count_congr p q [] same = refl
count_congr p q (x ∷ xs) same =
    let a = sum_by-cons (λ y. cond (p y) 1 0) x xs in
    let b = sum_by-cons (λ y. cond (q y) 1 0) x xs in
    let first = ap one_if (same x) in
    let rest = count_congr p q xs same in
    omega (arith, a, b, first, rest)

round_below : (stride n k : ℕ) → 0 < stride → ltb (n / stride) k ≡ ltb n (k * stride)
round_below stride n k some =
    let both = div-lt_iff_lt-mul {k = stride} {x = n} {y = k} some in
    elim (cases_lt (n / stride) k) [
      | inl low ↦ lt-ltb (n / stride) k low ∙ sym (lt-ltb n (k * stride) (both.0 low))
      | inr high ↦ le-ltb (n / stride) k high ∙ sym (le-ltb n (k * stride) (elim (cases_lt n (k * stride)) [ inl low ↦ absurd (omega (arith, both.1 low, high)) | inr fine ↦ fine ]))
    ]

module _ (stride : ℕ) (numbers tally : List ℕ) (some : 0 < stride) (each : (round : ℕ) → round < length tally → get_or tally round 0 ≡ sent_in stride numbers round) where
  -- how many operations come before a round ends
  pub sent_by : (k : ℕ) → k ≤ length tally → sum (take k tally) ≡ count_by (λ n. ltb n (k * stride)) numbers
  sent_by k few =
      sum_total (λ s. count_by (λ t. eqb t s) (map (λ n. n / stride) numbers)) tally k few (λ s low. each s (omega arith) ∙ sym (count_map (λ t. eqb t s) (λ n. n / stride) numbers))
      ∙ total_is k (map (λ n. n / stride) numbers) ∙ count_map (λ t. ltb t k) (λ n. n / stride) numbers
      ∙ count_congr (λ n. ltb (n / stride) k) (λ n. ltb n (k * stride)) numbers (λ n. round_below stride n k some)

  pub sent_few : sum tally ≤ length numbers
  sent_few =
      let all = ap sum (take_all (length tally) tally (omega arith)) in
      let e = sent_by (length tally) (omega arith) in
      let few = count_by-le-length (λ n. ltb n (length tally * stride)) numbers in
      omega (arith, all, e, few)

-- ---- one pass more

module _ (taken sent : List ℕ) (pass all : ℕ) (least : 1 ≤ pass) (low : pass < length taken - 1) (many : length sent ≡ length taken) (before : all ≡ sum (take (pass - 1) sent)) where
  pub sum_more : all + get_or sent (pass - 1) 0 ≡ sum (take pass sent)
  sum_more =
      let one : (pass - 1) + 1 ≡ pass = omega arith in
      let more = sum_by_more (λ x. x) sent (pass - 1) 0 (omega (arith, many)) in
      ap (λ k. k + get_or sent (pass - 1) 0) before ∙ sym more ∙ ap (λ k. sum (take k sent)) one

  next_pass : range_with_len pass (length taken - (pass + 1)) ≡ pass ∷ range_with_len (pass + 1) (length taken - (pass + 1 + 1))
  next_pass = let e : length taken - (pass + 1) ≡ suc (length taken - (pass + 1 + 1)) = omega arith in ap (range_with_len pass) e

  module _ (result whole : Bool) (answer : result ≡ leb (min (all + get_or sent (pass - 1) 0) (get_or taken (pass - 1) 0 + MAX_TAKEN)) (get_or taken (pass + 1) 0))
      (is : list_all (enough_at taken sent) (range_with_len pass (length taken - (pass + 1))) ≡ whole) where
    pub enough_is : (b : Bool) → result ≡ b → (b && list_all (enough_at taken sent) (range_with_len (pass + 1) (length taken - (pass + 1 + 1)))) ≡ whole
    enough_is b e =
        ap (λ t. t && list_all (enough_at taken sent) (range_with_len (pass + 1) (length taken - (pass + 1 + 1))))
        (sym e ∙ answer ∙ ap (λ n. leb (min n (get_or taken (pass - 1) 0 + MAX_TAKEN)) (get_or taken (pass + 1) 0)) sum_more)
        ∙ sym (ap (list_all (enough_at taken sent)) next_pass) ∙ is
