-- In a pool's history each buffer stands in the queue, or was got once more than it was given back.
use Rattle.std.proofs.Common.{◌≡◌, ℕ, zero, suc, ◌+◌, ◌<◌, ◌≤◌, Bool, true, false, List, [], ◌∷◌, ◌++◌, refl, ap, subst, ◌∙◌, Some, None, arith, reverse, count_by, drop, eqb, eqb-true, eq-eqb, slice_get, append_assoc}
use Rattle.hs_law_outcome.proofs.Prelude.{range_with_len, sum_by-cons, sum_by-append, one_if, PoolEvent, Empty, Given, Missed, is_got, is_given, queue_after, IsHistoryBack, IsPoolHistory, NoBufferIsOutTwice, EmptyOnlyWhereEmpty}
use Rattle.std.proofs.lemmas.List.{reverse-append}
use Rattle.std.proofs.lemmas.List.Sorted.{sum_by-IsPermutation, IsPermutation-reverse}
use Rattle.hs_base.proofs.Counts.{one_of_below}
use Rattle.hs_words.specs.PoolHistory.{Got, MayFollow}

-- ---- a place in a history

-- what came before an event, the latest first
back_to : (n : ℕ) (front behind : List PoolEvent) (event : PoolEvent) → IsHistoryBack n (behind ++ event ∷ front) → IsHistoryBack n front × MayFollow n front event
back_to n front [] event h = h
back_to n front (last ∷ behind) event h = back_to n front behind event h.0

reverse_split : (earlier later : List PoolEvent) (event : PoolEvent) → reverse (earlier ++ event ∷ later) ≡ reverse later ++ event ∷ reverse earlier
reverse_split earlier later event =
    reverse-append earlier (event ∷ later)
    ∙ ap (λ (front : List PoolEvent). front ++ reverse earlier) (reverse-append (event ∷ []) later)
    ∙ append_assoc (reverse later) (event ∷ []) (reverse earlier)

split_at : (n : ℕ) (earlier later : List PoolEvent) (event : PoolEvent) → IsPoolHistory n (earlier ++ event ∷ later) → IsHistoryBack n (reverse earlier) × MayFollow n (reverse earlier) event
split_at n earlier later event h = back_to n (reverse earlier) (reverse later) event (subst (IsHistoryBack n) (reverse_split earlier later event) h)

pub empty_only_where_empty : EmptyOnlyWhereEmpty
empty_only_where_empty n earlier later h = (split_at n earlier later Empty h).1

-- ---- how often a buffer was got

module _ (buffer : ℕ) where
  abbrev waits : List ℕ → ℕ
  waits queue = count_by (λ b. eqb b buffer) queue

  abbrev gots : List PoolEvent → ℕ
  gots events = count_by (is_got buffer) events

  abbrev gives : List PoolEvent → ℕ
  gives events = count_by (is_given buffer) events

  got_more : (event : PoolEvent) (events : List PoolEvent) → gots (event ∷ events) ≡ one_if (is_got buffer event) + gots events
  got_more event events = sum_by-cons (λ (e : PoolEvent). one_if (is_got buffer e)) event events

  give_more : (event : PoolEvent) (events : List PoolEvent) → gives (event ∷ events) ≡ one_if (is_given buffer event) + gives events
  give_more event events = sum_by-cons (λ (e : PoolEvent). one_if (is_given buffer e)) event events

  waits_front : (queue : List ℕ) (front : ℕ) → slice_get queue 0 ≡ Some front → waits queue ≡ one_if (eqb front buffer) + waits (drop 1 queue)
  waits_front [] front h = let no : None ≡ Some front = h in absurd cc
  waits_front (b ∷ queue) front h =
      let same : b ≡ front = cc in
      sum_by-cons (λ (b : ℕ). one_if (eqb b buffer)) b queue ∙ ap (λ (f : ℕ). one_if (eqb f buffer) + waits queue) same

  waits_back : (queue : List ℕ) (back : ℕ) → waits (queue ++ back ∷ []) ≡ waits queue + one_if (eqb back buffer)
  waits_back queue back = let both = sum_by-append (λ (b : ℕ). one_if (eqb b buffer)) queue (back ∷ []) in omega (arith, both)

  -- what waits and what was got is what was there and what was given
  pub record IsEven (n : ℕ) (events : List PoolEvent) : Type 0 where
    pub even : waits (queue_after n events) + gots events ≡ gives events + waits (range_with_len 0 n)
    pub behind : gives events ≤ gots events

  given_behind : (b : Bool) (given got : ℕ) → (b ≡ true → given < got) → given ≤ got → one_if b + given ≤ got
  given_behind true given got less low = let here = less refl in omega (arith, here)
  given_behind false given got less low = omega (arith, low)

  pub evens : (n : ℕ) (events : List PoolEvent) → IsHistoryBack n events → IsEven n events
  evens n [] h = record { even = omega arith; behind = omega arith }
  evens n (Got front ∷ events) h =
      let e = evens n events h.0 in
      let was = e.even in
      let low = e.behind in
      let queue = waits_front (queue_after n events) front h.1 in
      let got = got_more (Got front) events in
      let given = give_more (Got front) events in
      record { even = omega (arith, was, queue, got, given); behind = omega (arith, low, got, given) }
  evens n (Empty ∷ events) h =
      let e = evens n events h.0 in
      let was = e.even in
      let low = e.behind in
      let got = got_more Empty events in
      let given = give_more Empty events in
      record { even = omega (arith, was, got, given); behind = omega (arith, low, got, given) }
  evens n (Given back ∷ events) h =
      let e = evens n events h.0 in
      let was = e.even in
      let low = e.behind in
      let queue = waits_back (queue_after n events) back in
      let got = got_more (Given back) events in
      let given = give_more (Given back) events in
      let less = given_behind (eqb back buffer) (gives events) (gots events) (λ same. fewer back same events h.1) low in
      record { even = omega (arith, was, queue, got, given); behind = omega (arith, less, got, given) }
    where
      fewer : (back : ℕ) → eqb back buffer ≡ true → (events : List PoolEvent) → count_by (is_given back) events < count_by (is_got back) events → gives events < gots events
      fewer back same events less = subst (λ (b : ℕ). count_by (is_given b) events < count_by (is_got b) events) (eqb-true back buffer same) less
  evens n (Missed ∷ events) h =
      let e = evens n events h.0 in
      let was = e.even in
      let low = e.behind in
      let got = got_more Missed events in
      let given = give_more Missed events in
      record { even = omega (arith, was, got, given); behind = omega (arith, low, got, given) }

  none_below : (start count : ℕ) → buffer < start → waits (range_with_len start count) ≡ 0
  none_below start zero low = refl
  none_below start (suc count) low =
      let first = sum_by-cons (λ (b : ℕ). one_if (eqb b buffer)) start (range_with_len (start + 1) count) in
      let none = one_of_below buffer start (eqb start buffer) refl low in
      let rest = none_below (start + 1) count (omega (arith, low)) in
      omega (arith, first, none, rest)

  once_case : (start count : ℕ) (b : Bool) → eqb start buffer ≡ b → waits (range_with_len (start + 1) count) ≤ 1 → one_if b + waits (range_with_len (start + 1) count) ≤ 1
  once_case start count true same few =
      let e = eqb-true start buffer same in
      let none = none_below (start + 1) count (omega (arith, e)) in
      omega (arith, none)
  once_case start count false same few = omega (arith, few)

  once_there : (start count : ℕ) → waits (range_with_len start count) ≤ 1
  once_there start zero = omega arith
  once_there start (suc count) =
      let first = sum_by-cons (λ (b : ℕ). one_if (eqb b buffer)) start (range_with_len (start + 1) count) in
      let case = once_case start count (eqb start buffer) refl (once_there (start + 1) count) in
      omega (arith, first, case)

-- backwards, the counts are the same
pub count_back : (p : PoolEvent → Bool) (events : List PoolEvent) → count_by p (reverse events) ≡ count_by p events
count_back p events = sum_by-IsPermutation (λ (e : PoolEvent). one_if (p e)) events (reverse events) (IsPermutation-reverse events)

pub no_buffer_is_out_twice : NoBufferIsOutTwice
no_buffer_is_out_twice n buffer earlier later h =
    let parts = split_at n earlier later (Got buffer) h in
    let e = evens buffer n (reverse earlier) parts.0 in
    let even = e.even in
    let low = e.behind in
    let front = waits_front buffer (queue_after n (reverse earlier)) buffer parts.1 in
    let same : one_if (eqb buffer buffer) ≡ 1 = ap one_if (eq-eqb buffer buffer refl) in
    let once = once_there buffer 0 n in
    let got = count_back (is_got buffer) earlier in
    let given = count_back (is_given buffer) earlier in
    omega (arith, even, low, front, same, once, got, given)
