-- A pool has no more gives than draws that got a buffer, so its events are at most two for each page.
use Rattle.std.proofs.Common.{◌≡◌, ◌⊎◌, inl, inr, ℕ, zero, suc, ◌+◌, ◌*◌, ◌<◌, ◌≤◌, Bool, true, false, cond, List, [], ◌∷◌, ◌++◌, length, refl, sym, ap, ◌∙◌, Option, Some, None, arith, map, filter, reverse, count_by, eqb, eqb-true, eq-eqb, length-append}
use Rattle.hs_law_run.proofs.Prelude.{AllByRecursion, flat_map, range_with_len, cons_option, length-map, reverse-append, one_if, count_cons, count_append, option_unmap, sheets_of, GivenPlace, PlainSettings, ClientSends, Sheet, PoolEvent, Got, Empty, Given, is_got, is_given, NodeRun, StampedPoolEvent, by_stamp, drawn_event, sum_to, sum_le}
use Rattle.hs_words.specs.PoolHistory.{Missed}
use Rattle.hs_base.proofs.Counts.{count_map}
use Rattle.hs_law_run.proofs.Closing.{sum_both}
use Rattle.hs_law_run.proofs.Growing.{events_back, history_of, IsBelow}
use Rattle.hs_law_run.proofs.Held.{node_events, IsHeld}
use Rattle.hs_law_run.proofs.Holding.{given_as, event_at, pages_in, gives_in}

-- ---- counts of events in the order of stamps

abbrev of_stamp : List StampedPoolEvent → ℕ → List StampedPoolEvent
of_stamp events s = filter (λ (e : StampedPoolEvent). eqb e.stamp s) events

module _ (p : StampedPoolEvent → Bool) where
  count_case : (e : StampedPoolEvent) (kept : List StampedPoolEvent) (b : Bool) → count_by p (cond b (e ∷ kept) kept) ≡ cond b (one_if (p e)) 0 + count_by p kept
  count_case e kept true = count_cons p e kept
  count_case e kept false = plain (count_by p kept)
    where
      plain : (n : ℕ) → n ≡ 0 + n
      plain n = omega arith

  abbrev from : List StampedPoolEvent → ℕ → ℕ → ℕ
  from events start count = count_by p (flat_map (of_stamp events) (range_with_len start count))

  from_first : (events : List StampedPoolEvent) (start count : ℕ) → from events start (suc count) ≡ count_by p (of_stamp events start) + from events (start + 1) count
  from_first events start count = count_append p (of_stamp events start) (flat_map (of_stamp events) (range_with_len (start + 1) count))

  -- an event whose stamp is past does not come again
  from_past : (e : StampedPoolEvent) (events : List StampedPoolEvent) (start count : ℕ) → e.stamp < start → from (e ∷ events) start count ≡ from events start count
  from_past e events start zero low = refl
  from_past e events start (suc count) low =
      let whole = from_first (e ∷ events) start count in
      let was = from_first events start count in
      let rest = from_past e events (start + 1) count (omega (arith, low)) in
      let here = count_case e (of_stamp events start) (eqb e.stamp start) in
      let none = not_here (eqb e.stamp start) refl in
      omega (arith, whole, was, rest, here, none)
    where
      not_here : (b : Bool) → eqb e.stamp start ≡ b → cond b (one_if (p e)) 0 ≡ 0
      not_here true same = let equal = eqb-true e.stamp start same in absurd (omega (arith, equal, low))
      not_here false same = refl

  -- and one to come comes once
  from_more : (e : StampedPoolEvent) (events : List StampedPoolEvent) (start count : ℕ) → start ≤ e.stamp → e.stamp < start + count → from (e ∷ events) start count ≡ one_if (p e) + from events start count
  from_more e events start zero low high = absurd (omega (arith, low, high))
  from_more e events start (suc count) low high =
      let whole = from_first (e ∷ events) start count in
      let was = from_first events start count in
      let here = count_case e (of_stamp events start) (eqb e.stamp start) in
      let both = either (eqb e.stamp start) refl (λ next. from_more e events (start + 1) count next (omega (arith, high))) in
      omega (arith, whole, was, here, both)
    where
      either : (b : Bool) → eqb e.stamp start ≡ b → (start + 1 ≤ e.stamp → from (e ∷ events) (start + 1) count ≡ one_if (p e) + from events (start + 1) count)
          → cond b (one_if (p e)) 0 + from (e ∷ events) (start + 1) count ≡ one_if (p e) + from events (start + 1) count
      either true same on =
          let equal = eqb-true e.stamp start same in
          let past = from_past e events (start + 1) count (omega (arith, equal)) in
          omega (arith, past)
      either false same on = let rest = on (later (below_or e.stamp start)) in omega (arith, rest)
        where
          below_or : (a b : ℕ) → (a ≡ b) ⊎ ((a < b) ⊎ (b < a))
          below_or zero zero = inl refl
          below_or zero (suc b) = inr (inl (omega arith))
          below_or (suc a) zero = inr (inr (omega arith))
          below_or (suc a) (suc b) = elim (below_or a b) as (λ _. (suc a ≡ suc b) ⊎ ((suc a < suc b) ⊎ (suc b < suc a))) [
            | inl e ↦ inl (ap suc e)
            | inr (inl less) ↦ inr (inl (omega (arith, less)))
            | inr (inr more) ↦ inr (inr (omega (arith, more)))
          ]

          later : (e.stamp ≡ start) ⊎ ((e.stamp < start) ⊎ (start < e.stamp)) → start + 1 ≤ e.stamp
          later (inl equal) = let never : true ≡ false = sym (eq-eqb e.stamp start equal) ∙ same in absurd cc
          later (inr (inl less)) = absurd (omega (arith, less, low))
          later (inr (inr more)) = omega (arith, more)

  from_none : (start count : ℕ) → from [] start count ≡ 0
  from_none start zero = refl
  from_none start (suc count) = from_none (start + 1) count

  sorted_count : (events : List StampedPoolEvent) (n : ℕ) → IsBelow n events → count_by p (by_stamp (λ (e : StampedPoolEvent). e.stamp) n events) ≡ count_by p events
  sorted_count [] n all = from_none 0 n
  sorted_count (e ∷ events) n all =
      let first = count_cons p e events in
      let rest = sorted_count events n all.1 in
      let low = all.0 in
      let more = from_more e events 0 n (omega arith) (omega (arith, low)) in
      omega (arith, first, rest, more)

count_reversed : {X : Type 0} (q : X → Bool) (xs : List X) → count_by q (reverse xs) ≡ count_by q xs
count_reversed q [] = refl
count_reversed q (x ∷ xs) =
    let turned = ap (count_by q) (reverse-append (x ∷ []) xs) in
    let both = count_append q (reverse xs) (x ∷ []) in
    let last = count_cons q x [] in
    let first = count_cons q x xs in
    let rest = count_reversed q xs in
    omega (arith, turned, both, last, first, rest)

-- what is counted of the history is counted of the events
pub back_count : (q : PoolEvent → Bool) (events : List StampedPoolEvent) → IsBelow (length events) events → count_by q (events_back events) ≡ count_by (λ (e : StampedPoolEvent). q e.event) events
back_count q events low =
    count_reversed q (history_of events)
    ∙ count_map q (λ (e : StampedPoolEvent). e.event) (by_stamp (λ (e : StampedPoolEvent). e.stamp) (length events) events)
    ∙ sorted_count (λ (e : StampedPoolEvent). q e.event) events (length events) low

-- ---- sums of counts

module _ {X : Type 0} (q : ℕ → X → Bool) (n : ℕ) where
  abbrev tally : X → ℕ
  tally x = sum_to (λ c. one_if (q c x)) n

  abbrev counts : List X → ℕ
  counts xs = sum_to (λ c. count_by (q c) xs) n

  counts_first : (x : X) (xs : List X) → counts (x ∷ xs) ≡ tally x + counts xs
  counts_first x xs =
      let both = sum_both (λ c. one_if (q c x)) (λ c. count_by (q c) xs) n in
      let less = sum_le (λ c. count_by (q c) (x ∷ xs)) (λ c. one_if (q c x) + count_by (q c) xs) n (λ c low. let first = count_cons (q c) x xs in omega (arith, first)) in
      let more = sum_le (λ c. one_if (q c x) + count_by (q c) xs) (λ c. count_by (q c) (x ∷ xs)) n (λ c low. let first = count_cons (q c) x xs in omega (arith, first)) in
      omega (arith, both, less, more)

  counts_none : (m : ℕ) → sum_to (λ c. count_by (q c) []) m ≡ 0
  counts_none zero = refl
  counts_none (suc m) = let rest = counts_none m in omega (arith, rest)

  counts_most : (xs : List X) → AllByRecursion (λ x. tally x ≤ 1) xs → counts xs ≤ length xs
  counts_most [] all = let none = counts_none n in omega (arith, none)
  counts_most (x ∷ xs) all =
      let first = counts_first x xs in
      let here = all.0 in
      let rest = counts_most xs all.1 in
      omega (arith, first, here, rest)

  counts_least : (xs : List X) → AllByRecursion (λ x. 1 ≤ tally x) xs → length xs ≤ counts xs
  counts_least [] all = omega arith
  counts_least (x ∷ xs) all =
      let first = counts_first x xs in
      let here = all.0 in
      let rest = counts_least xs all.1 in
      omega (arith, first, here, rest)

  counts_zero : (xs : List X) → AllByRecursion (λ x. tally x ≡ 0) xs → counts xs ≡ 0
  counts_zero [] all = counts_none n
  counts_zero (x ∷ xs) all =
      let first = counts_first x xs in
      let here = all.0 in
      let rest = counts_zero xs all.1 in
      omega (arith, first, here, rest)

-- a number is one of those below a bound, or none
same_past : (b n : ℕ) → n ≤ b → sum_to (λ c. one_if (eqb b c)) n ≡ 0
same_past b zero low = refl
same_past b (suc n) low =
    let rest = same_past b n (omega (arith, low)) in
    let here = other (eqb b n) refl in
    omega (arith, rest, here)
  where
    other : (t : Bool) → eqb b n ≡ t → one_if t ≡ 0
    other true same = let equal = eqb-true b n same in absurd (omega (arith, equal, low))
    other false same = refl

same_most : (b n : ℕ) → sum_to (λ c. one_if (eqb b c)) n ≤ 1
same_most b zero = omega arith
same_most b (suc n) = either (eqb b n) refl (same_most b n)
  where
    either : (t : Bool) → eqb b n ≡ t → sum_to (λ c. one_if (eqb b c)) n ≤ 1 → sum_to (λ c. one_if (eqb b c)) n + one_if (eqb b n) ≤ 1
    either true same rest =
        let equal = eqb-true b n same in
        let past = same_past b n (omega (arith, equal)) in
        let here = ap one_if same in
        omega (arith, past, here)
    either false same rest = let here = ap one_if same in omega (arith, rest, here)

same_least : (b n : ℕ) → b < n → 1 ≤ sum_to (λ c. one_if (eqb b c)) n
same_least b zero low = absurd (omega (arith, low))
same_least b (suc n) low = either (eqb b n) refl (λ less. same_least b n less)
  where
    either : (t : Bool) → eqb b n ≡ t → (b < n → 1 ≤ sum_to (λ c. one_if (eqb b c)) n) → 1 ≤ sum_to (λ c. one_if (eqb b c)) n + one_if (eqb b n)
    either true same on = let here = ap one_if same in omega (arith, here)
    either false same on = less (below_or b n)
      where
        below_or : (a b : ℕ) → (a < b) ⊎ (b ≤ a)
        below_or a zero = inr (omega arith)
        below_or zero (suc b) = inl (omega arith)
        below_or (suc a) (suc b) = elim (below_or a b) as (λ _. (suc a < suc b) ⊎ (suc b ≤ suc a)) [ inl less ↦ inl (omega (arith, less)) | inr more ↦ inr (omega (arith, more)) ]

        less : (b < n) ⊎ (n ≤ b) → 1 ≤ sum_to (λ c. one_if (eqb b c)) n + one_if (eqb b n)
        less (inl l) = let rest = on l in omega (arith, rest)
        less (inr m) = let equal : b ≡ n = omega (arith, m, low) in let never : true ≡ false = sym (eq-eqb b n equal) ∙ same in absurd cc

none_of : (n : ℕ) → sum_to (λ c. one_if false) n ≡ 0
none_of zero = refl
none_of (suc n) = let rest = none_of n in omega (arith, rest)

-- ---- gives and draws

-- the events are gives
record IsGive (e : StampedPoolEvent) : Type 0 where
  buffer : ℕ
  is : e.event ≡ Given buffer

gives_give : (sends : List ClientSends) (sheets : List Sheet) (givens : List GivenPlace) → AllByRecursion IsGive (gives_in sends sheets givens)
gives_give sends sheets [] = tt
gives_give sends sheets (g ∷ givens) = kept (event_at sends sheets g) (λ e h. made e h) (gives_give sends sheets givens)
  where
    made : (e : StampedPoolEvent) → event_at sends sheets g ≡ Some e → IsGive e
    made e h = let t = option_unmap (given_as g.stamp) _ e h in record { buffer = t.0; is = ap (λ (e : StampedPoolEvent). e.event) (sym t.2) }

    kept : (o : Option StampedPoolEvent) → ((e : StampedPoolEvent) → o ≡ Some e → IsGive e) → AllByRecursion IsGive (gives_in sends sheets givens) → AllByRecursion IsGive (cons_option o (gives_in sends sheets givens))
    kept None each rest = rest
    kept (Some e) each rest = (each e refl, rest)

-- a number above all buffers that are given
abbrev top : (es : List StampedPoolEvent) → AllByRecursion IsGive es → ℕ
top [] all = 0
top (e ∷ es) all = all.0.buffer + 1 + top es all.1

module _ (n : ℕ) where
  abbrev given_as_one : ℕ → StampedPoolEvent → Bool
  given_as_one c e = is_given c e.event

  abbrev got_as_one : ℕ → StampedPoolEvent → Bool
  got_as_one c e = is_got c e.event

  given_tally : (e : PoolEvent) (buffer : ℕ) → e ≡ Given buffer → sum_to (λ c. one_if (is_given c e)) n ≡ sum_to (λ c. one_if (eqb buffer c)) n
  given_tally e buffer h = ap (λ (e : PoolEvent). sum_to (λ c. one_if (is_given c e)) n) h

  got_most : (e : PoolEvent) → sum_to (λ c. one_if (is_got c e)) n ≤ 1
  got_most (Got buffer) = same_most buffer n
  got_most Empty = let none = none_of n in omega (arith, none)
  got_most (Given buffer) = let none = none_of n in omega (arith, none)
  got_most Missed = let none = none_of n in omega (arith, none)

  all_got_most : (es : List StampedPoolEvent) → AllByRecursion (λ e. tally got_as_one n e ≤ 1) es
  all_got_most [] = tt
  all_got_most (e ∷ es) = (got_most e.event, all_got_most es)

  gives_got : (es : List StampedPoolEvent) → AllByRecursion IsGive es → AllByRecursion (λ e. tally got_as_one n e ≡ 0) es
  gives_got [] all = tt
  gives_got (e ∷ es) all = (ap (λ (e : PoolEvent). sum_to (λ c. one_if (is_got c e)) n) all.0.is ∙ none_of n, gives_got es all.1)

gives_given : (n : ℕ) (es : List StampedPoolEvent) (all : AllByRecursion IsGive es) → top es all ≤ n → AllByRecursion (λ e. 1 ≤ tally (given_as_one n) n e) es
gives_given n [] all low = tt
gives_given n (e ∷ es) all low =
    let same = given_tally n e.event all.0.buffer all.0.is in
    let least = same_least all.0.buffer n (omega (arith, low)) in
    (omega (arith, same, least), gives_given n es all.1 (omega (arith, low)))

counts_apart : (n : ℕ) (xs ys : List StampedPoolEvent) → counts (got_as_one n) n (xs ++ ys) ≡ counts (got_as_one n) n xs + counts (got_as_one n) n ys
counts_apart n xs ys =
    let both = sum_both (λ c. count_by (got_as_one n c) xs) (λ c. count_by (got_as_one n c) ys) n in
    let less = sum_le (λ c. count_by (got_as_one n c) (xs ++ ys)) (λ c. count_by (got_as_one n c) xs + count_by (got_as_one n c) ys) n (λ c low. let two = count_append (got_as_one n c) xs ys in omega (arith, two)) in
    let more = sum_le (λ c. count_by (got_as_one n c) xs + count_by (got_as_one n c) ys) (λ c. count_by (got_as_one n c) (xs ++ ys)) n (λ c low. let two = count_append (got_as_one n c) xs ys in omega (arith, two)) in
    omega (arith, both, less, more)

-- two events for each page at most
pub events_few : (settings : PlainSettings) (run : NodeRun) → IsHeld settings run → length (node_events run) ≤ 2 * length (pages_in run.sends)
events_few settings run h =
    let pages = map drawn_event (pages_in run.sends) in
    let gives = gives_in run.sends (sheets_of run.state.taken) run.state.given in
    let are = gives_give run.sends (sheets_of run.state.taken) run.state.given in
    let n = top gives are in
    let low = h.holds.pooled.low in
    let whole = length-append pages gives in
    let mapped = length-map (pages_in run.sends) drawn_event in
    let least = counts_least (given_as_one n) n gives (gives_given n gives are (omega arith)) in
    let owed =
    sum_le (λ c. count_by (given_as_one n c) gives) (λ c. count_by (got_as_one n c) (pages ++ gives)) n
    (λ c below.
    let owed = h.holds.pooled.owed c in
    let given = back_count (is_given c) (node_events run) low in
    let got = back_count (is_got c) (node_events run) low in
    let both = count_append (given_as_one n c) pages gives in
    omega (arith, owed, given, got, both))
    in
    let apart = counts_apart n pages gives in
    let most = counts_most (got_as_one n) n pages (all_got_most n pages) in
    let none = counts_zero (got_as_one n) n gives (gives_got n gives are) in
    omega (arith, whole, mapped, least, owed, apart, most, none)
