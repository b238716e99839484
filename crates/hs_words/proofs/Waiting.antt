-- What the history of a pool says of the buffers that wait.
use Rattle.std.proofs.Common.{◌≡◌, ℕ, zero, suc, ◌+◌, ◌<◌, ◌≤◌, Bool, true, false, cond, ◌==◌, ◌||◌, eqb, List, [], ◌∷◌, ◌++◌, length, drop, Some, refl, sym, ap, ◌∙◌, subst, arith, length-append, ⊎_elim}
use mathlib.Core.Option.{some, some-injective, some-ne-none}
use lib.ListN.{get_elem?}
use Rattle.std.specs.Prelude.{slice_get, count_by}
use Rattle.std.specs.List.{list_any, range_with_len, IsDistinct, AllByRecursion}
use Rattle.std.proofs.lemmas.List.Sums.{sum_by-append}
use Rattle.std.proofs.lemmas.Map.Keys.{IsDistinct-cons}
use Rattle.std.proofs.lemmas.Map.Steps.{length-le_from_distinct_below}
use Rattle.std.proofs.lemmas.Bool.{cases_lt}
use Rattle.std.proofs.lemmas.List.FromFn.{length-range_with_len}
use borrow.Author.Tests.{eqb-true, eq-eqb, ne_eqb}
use Rattle.hs_base.proofs.Counts.{count_cons}
use Rattle.hs_words.specs.PoolHistory.{PoolEvent, Got, Empty, Given, Missed, is_got, is_given, is_empty, is_missed, queue_after, MayFollow, IsHistoryBack}
use Rattle.hs_words.specs.Ends.{Deed, events_of, drawn_in, given_in, is_any_got, is_any_given}
use Rattle.hs_words.specs.PoolHistory as pool

-- whether a number is this one
abbrev pub is : ℕ → ℕ → Bool
is number other = other == number

counted_last : (number : ℕ) (xs : List ℕ) (x : ℕ) → count_by (is number) (xs ++ x ∷ []) ≡ count_by (is number) xs + cond (x == number) 1 0
counted_last number xs x = omega (arith, sum_by-append (λ (y : ℕ). cond (is number y) 1 0) xs (x ∷ []), count_cons (is number) x [])

-- a queue's front, counted
front_counted : (number buffer : ℕ) (queue : List ℕ) → slice_get queue 0 ≡ Some buffer
    → count_by (is number) queue ≡ cond (buffer == number) 1 0 + count_by (is number) (drop 1 queue)
front_counted number buffer [] front = absurd cc
front_counted number buffer (x ∷ xs) front =
    let same : x ≡ buffer = cc in
    subst (λ (b : ℕ). count_by (is number) (x ∷ xs) ≡ cond (b == number) 1 0 + count_by (is number) xs) same (count_cons (is number) x xs)

-- What waits and what was got are together what was given and what was there at first.
pub balance : (n number : ℕ) (earlier : List PoolEvent) → IsHistoryBack n earlier
    → count_by (is number) (queue_after n earlier) + count_by (is_got number) earlier ≡ count_by (is_given number) earlier + count_by (is number) (range_with_len 0 n)
balance n number [] history = omega arith
balance n number (Got buffer ∷ earlier) history =
    omega (arith, count_cons (is_got number) (Got buffer) earlier, count_cons (is_given number) (Got buffer) earlier, balance n number earlier history.0, front_counted number buffer (queue_after n earlier) history.1)
balance n number (Empty ∷ earlier) history =
    omega (arith, count_cons (is_got number) Empty earlier, count_cons (is_given number) Empty earlier, balance n number earlier history.0)
balance n number (Given buffer ∷ earlier) history =
    omega (arith, count_cons (is_got number) (Given buffer) earlier, count_cons (is_given number) (Given buffer) earlier, balance n number earlier history.0, counted_last number (queue_after n earlier) buffer)
balance n number (Missed ∷ earlier) history =
    omega (arith, count_cons (is_got number) Missed earlier, count_cons (is_given number) Missed earlier, balance n number earlier history.0)

-- ---- how often a number is among these

apart : (b : Bool) → b ≡ false → ◌≡◌ {A = ℕ} (cond b 1 0) 0
apart b e = ap (λ (c : Bool). let n : ℕ = cond c 1 0 in n) e

together : (b : Bool) → b ≡ true → ◌≡◌ {A = ℕ} (cond b 1 0) 1
together b e = ap (λ (c : Bool). let n : ℕ = cond c 1 0 in n) e

pub none_below : (a n number : ℕ) → number < a → count_by (is number) (range_with_len a n) ≡ 0
none_below a zero number less = refl
none_below a (suc n) number less =
    omega (arith, count_cons (is number) a (range_with_len (a + 1) n), apart (a == number) (ne_eqb a number (λ e. omega arith)), none_below (a + 1) n number (omega arith))

pub none_above : (a n number : ℕ) → a + n ≤ number → count_by (is number) (range_with_len a n) ≡ 0
none_above a zero number less = refl
none_above a (suc n) number less =
    omega (arith, count_cons (is number) a (range_with_len (a + 1) n), apart (a == number) (ne_eqb a number (λ e. omega arith)), none_above (a + 1) n number (omega arith))

pub once_at : (a number rest whole : ℕ) (b : Bool) → (a == number) ≡ b → whole ≡ cond b 1 0 + rest → (number < a + 1 → rest ≡ 0) → (a + 1 ≤ number → rest ≡ 1) → a ≤ number → whole ≡ 1
once_at a number rest whole true e is below above low = let same = eqb-true a number e in omega (arith, below (omega arith))
once_at a number rest whole false e is below above low =
    let differ : a ≡ number → ⊥ = λ same. let both : true ≡ false = sym (eq-eqb a number same) ∙ e in absurd cc in
    omega (arith, above (omega (arith, differ)))

pub once_within : (a n number : ℕ) → a ≤ number → number < a + n → count_by (is number) (range_with_len a n) ≡ 1
once_within a zero number low high = absurd (omega arith)
once_within a (suc n) number low high =
    once_at a number (count_by (is number) (range_with_len (a + 1) n)) (count_by (is number) (range_with_len a (suc n))) (a == number) refl (count_cons (is number) a (range_with_len (a + 1) n))
    (none_below (a + 1) n number) (λ above. once_within (a + 1) n number above (omega arith)) low

pub at_most_one : (n number : ℕ) → count_by (is number) (range_with_len 0 n) ≤ 1
at_most_one n number =
    ⊎_elim (λ less. omega (arith, once_within 0 n number (omega arith) (omega arith))) (λ above. omega (arith, none_above 0 n number (omega arith))) (cases_lt number n)

-- no buffer was given more often than it was got
given_le_got : (n number : ℕ) (earlier : List PoolEvent) → IsHistoryBack n earlier → count_by (is_given number) earlier ≤ count_by (is_got number) earlier
given_le_got n number [] history = omega arith
given_le_got n number (Got buffer ∷ earlier) history =
    omega (arith, count_cons (is_got number) (Got buffer) earlier, count_cons (is_given number) (Got buffer) earlier, given_le_got n number earlier history.0)
given_le_got n number (Empty ∷ earlier) history =
    omega (arith, count_cons (is_got number) Empty earlier, count_cons (is_given number) Empty earlier, given_le_got n number earlier history.0)
given_le_got n number (Given buffer ∷ earlier) history = step (buffer == number) refl (given_le_got n number earlier history.0)
  where
    step : (b : Bool) → (buffer == number) ≡ b → count_by (is_given number) earlier ≤ count_by (is_got number) earlier → count_by (is_given number) (Given buffer ∷ earlier) ≤ count_by (is_got number) (Given buffer ∷ earlier)
    step true e rest =
        let same = eqb-true buffer number e in
        let less : count_by (is_given number) earlier < count_by (is_got number) earlier = subst (λ (k : ℕ). count_by (is_given k) earlier < count_by (is_got k) earlier) same history.1 in
        omega (arith, count_cons (is_got number) (Given buffer) earlier, count_cons (is_given number) (Given buffer) earlier, together (buffer == number) e)
    step false e rest =
        omega (arith, count_cons (is_got number) (Given buffer) earlier, count_cons (is_given number) (Given buffer) earlier, apart (buffer == number) e)
given_le_got n number (Missed ∷ earlier) history =
    omega (arith, count_cons (is_got number) Missed earlier, count_cons (is_given number) Missed earlier, given_le_got n number earlier history.0)

-- ---- the queue has each buffer at most once

pub waits_once : (n number : ℕ) (earlier : List PoolEvent) → IsHistoryBack n earlier → count_by (is number) (queue_after n earlier) ≤ 1
waits_once n number earlier history = omega (arith, balance n number earlier history, given_le_got n number earlier history, at_most_one n number)

waits_below : (n number : ℕ) (earlier : List PoolEvent) → IsHistoryBack n earlier → n ≤ number → count_by (is number) (queue_after n earlier) ≡ 0
waits_below n number earlier history high = omega (arith, balance n number earlier history, given_le_got n number earlier history, none_above 0 n number (omega arith))

-- what stands in a list is counted
pub some_counted : (number : ℕ) (xs : List ℕ) (i : ℕ) → get_elem? xs i ≡ some number → 0 < count_by (is number) xs
some_counted number [] i at = absurd (some-ne-none number (sym at))
some_counted number (x ∷ xs) zero at =
    omega (arith, count_cons (is number) x xs, together (x == number) (eq-eqb x number (some-injective x number at)))
some_counted number (x ∷ xs) (suc i) at = omega (arith, count_cons (is number) x xs, some_counted number xs i at)

pub none_counted : (number : ℕ) (xs : List ℕ) → ((i : ℕ) → get_elem? xs i ≡ some number → ⊥) → count_by (is number) xs ≡ 0
none_counted number [] none = refl
none_counted number (x ∷ xs) none =
    omega (arith, count_cons (is number) x xs, apart (x == number) (ne_eqb x number (λ e. none 0 (ap some e))), none_counted number xs (λ i at. none (suc i) at))

-- a buffer that waits has a number below n
pub waiting_below : (n : ℕ) (earlier : List PoolEvent) → IsHistoryBack n earlier → (i buffer : ℕ) → get_elem? (queue_after n earlier) i ≡ some buffer → buffer < n
waiting_below n earlier history i buffer at =
    let some_there = some_counted buffer (queue_after n earlier) i at in
    ⊎_elim (λ less. less) (λ above. let none = waits_below n buffer earlier history (omega arith) in absurd (omega arith)) (cases_lt buffer n)

differs : (x : ℕ) (xs : List ℕ) → count_by (is x) xs ≡ 0 → AllByRecursion (λ (y : ℕ). eqb x y ≡ false) xs
differs x [] none = tt
differs x (y ∷ ys) none =
    let split = count_cons (is x) y ys in (
      ne_eqb x y (λ e. let one = together (y == x) (eq-eqb y x (sym e)) in absurd (omega arith)),
      differs x ys (omega arith),
    )

distinct : (xs : List ℕ) → ((number : ℕ) → count_by (is number) xs ≤ 1) → IsDistinct eqb xs
unfolding IsDistinct
distinct [] once = tt
distinct (x ∷ xs) once =
    let here = count_cons (is x) x xs in
    let one = together (x == x) (eq-eqb x x refl) in
    let most = once x in
    IsDistinct-cons eqb x xs (differs x xs (omega arith)) (distinct xs (λ number. let split = count_cons (is number) x xs in let most' = once number in omega arith))

any_counted : (number : ℕ) (xs : List ℕ) → list_any (eqb number) xs ≡ true → 0 < count_by (is number) xs
any_counted number [] any = absurd cc
any_counted number (x ∷ xs) any = step (eqb number x) refl any (any_counted number xs)
  where
    step : (b : Bool) → eqb number x ≡ b → (b || list_any (eqb number) xs) ≡ true → (list_any (eqb number) xs ≡ true → 0 < count_by (is number) xs) → 0 < count_by (is number) (x ∷ xs)
    step true e any tail = let one = together (x == number) (eq-eqb x number (sym (eqb-true number x e))) in let split = count_cons (is number) x xs in omega arith
    step false e any tail = let split = count_cons (is number) x xs in let rest = tail any in omega arith

-- At most n buffers wait.
pub few : (n : ℕ) (earlier : List PoolEvent) → IsHistoryBack n earlier → length (queue_after n earlier) ≤ n
few n earlier history =
    let queue = queue_after n earlier in
    length-le_from_distinct_below queue n (distinct queue (λ number. waits_once n number earlier history))
    (λ number any.
    let some_there = any_counted number queue any in
    ⊎_elim (λ less. less) (λ above. let none = waits_below n number earlier history (omega arith) in absurd (omega arith)) (cases_lt number n))

-- A buffer that does not wait may be given.
pub may_give : (n buffer : ℕ) (earlier : List PoolEvent) → IsHistoryBack n earlier → buffer < n → ((i : ℕ) → get_elem? (queue_after n earlier) i ≡ some buffer → ⊥)
    → MayFollow n earlier (Given buffer)
may_give n buffer earlier history below out =
    let none = none_counted buffer (queue_after n earlier) out in
    let one = once_within 0 n buffer (omega arith) (omega arith) in
    let balanced = balance n buffer earlier history in
    omega arith

-- ---- how many wait

front_length : (buffer : ℕ) (queue : List ℕ) → slice_get queue 0 ≡ Some buffer → length queue ≡ suc (length (drop 1 queue))
front_length buffer [] front = absurd cc
front_length buffer (x ∷ xs) front = refl

pub waiting_length : (n : ℕ) (earlier : List PoolEvent) → IsHistoryBack n earlier → length (queue_after n earlier) + count_by is_any_got earlier ≡ n + count_by is_any_given earlier
waiting_length n [] history = let e = length-range_with_len 0 n in omega arith
waiting_length n (Got buffer ∷ earlier) history =
    omega (arith, count_cons is_any_got (Got buffer) earlier, count_cons is_any_given (Got buffer) earlier, waiting_length n earlier history.0, front_length buffer (queue_after n earlier) history.1)
waiting_length n (Empty ∷ earlier) history = omega (arith, count_cons is_any_got Empty earlier, count_cons is_any_given Empty earlier, waiting_length n earlier history.0)
waiting_length n (Given buffer ∷ earlier) history =
    omega (arith, count_cons is_any_got (Given buffer) earlier, count_cons is_any_given (Given buffer) earlier, waiting_length n earlier history.0, length-append (queue_after n earlier) (buffer ∷ []))
waiting_length n (Missed ∷ earlier) history = omega (arith, count_cons is_any_got Missed earlier, count_cons is_any_given Missed earlier, waiting_length n earlier history.0)

-- the counts of a log are those of its kinds of events
pub drawn_kinds : (log : List Deed) → drawn_in log ≡ count_by is_any_got (events_of log) + count_by is_empty (events_of log)
drawn_kinds [] = refl
drawn_kinds (x ∷ xs) = step x.event (count_cons is_any_got x.event (events_of xs)) (count_cons is_empty x.event (events_of xs)) (drawn_kinds xs)
  where
    step : (e : PoolEvent) → count_by is_any_got (e ∷ events_of xs) ≡ cond (is_any_got e) 1 0 + count_by is_any_got (events_of xs) → count_by is_empty (e ∷ events_of xs) ≡ cond (is_empty e) 1 0 + count_by is_empty (events_of xs)
        → drawn_in xs ≡ count_by is_any_got (events_of xs) + count_by is_empty (events_of xs)
        → Rattle.hs_words.specs.Ends.draws e + drawn_in xs ≡ count_by is_any_got (e ∷ events_of xs) + count_by is_empty (e ∷ events_of xs)
    step (Got b) p q r = omega arith
    step Empty p q r = omega arith
    step (Given b) p q r = omega arith
    step Missed p q r = omega arith

pub given_kinds : (log : List Deed) → given_in log ≡ count_by is_any_given (events_of log) + count_by is_missed (events_of log)
given_kinds [] = refl
given_kinds (x ∷ xs) = step x.event (count_cons is_any_given x.event (events_of xs)) (count_cons is_missed x.event (events_of xs)) (given_kinds xs)
  where
    step : (e : PoolEvent) → count_by is_any_given (e ∷ events_of xs) ≡ cond (is_any_given e) 1 0 + count_by is_any_given (events_of xs) → count_by is_missed (e ∷ events_of xs) ≡ cond (is_missed e) 1 0 + count_by is_missed (events_of xs)
        → given_in xs ≡ count_by is_any_given (events_of xs) + count_by is_missed (events_of xs)
        → Rattle.hs_words.specs.Ends.gives e + given_in xs ≡ count_by is_any_given (e ∷ events_of xs) + count_by is_missed (e ∷ events_of xs)
    step (Got b) p q r = omega arith
    step Empty p q r = omega arith
    step (Given b) p q r = omega arith
    step Missed p q r = omega arith

pub few_missed : (n : ℕ) (earlier : List PoolEvent) → IsHistoryBack n earlier → count_by is_missed earlier ≤ count_by is_empty earlier
few_missed n [] history = omega arith
few_missed n (pool.Got b ∷ earlier) history = omega (arith, count_cons is_missed (pool.Got b) earlier, count_cons is_empty (pool.Got b) earlier, few_missed n earlier history.0)
few_missed n (pool.Empty ∷ earlier) history = omega (arith, count_cons is_missed pool.Empty earlier, count_cons is_empty pool.Empty earlier, few_missed n earlier history.0)
few_missed n (pool.Given b ∷ earlier) history = omega (arith, count_cons is_missed (pool.Given b) earlier, count_cons is_empty (pool.Given b) earlier, few_missed n earlier history.0)
few_missed n (pool.Missed ∷ earlier) history = omega (arith, count_cons is_missed pool.Missed earlier, count_cons is_empty pool.Missed earlier, history.1.1)
