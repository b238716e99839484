-- What the history of a pool bounds. All buffers in it are the pool's, and it has no more gives and misses than draws.
use Rattle.std.proofs.Common.{◌≡◌, ℕ, zero, suc, ◌+◌, ◌<◌, ◌≤◌, Bool, true, false, List, [], ◌∷◌, ◌++◌, length, refl, ap, Some, None, arith, drop, reverse, slice_get, count_by, eqb, eqb-true, ltb, lt-ltb, ltb-true}
use Rattle.hs_law_outcome.proofs.Prelude.{AllByRecursion, same_Some, one_if, count_cons, PoolEvent, Empty, Given, Missed, is_got, is_empty, is_given, is_missed, queue_after, IsHistoryBack, IsPoolHistory}
use Rattle.std.proofs.lemmas.List.{length-reverse}
use Rattle.hs_words.specs.PoolHistory.{Got}
use Rattle.hs_words.proofs.Waiting.{few_missed}
use Rattle.hs_law_outcome.proofs.Buffers.{evens, count_back}
use Rattle.hs_law_outcome.proofs.GotPages.{all_below}
use Rattle.hs_law_outcome.proofs.Stamps.{below_case}

-- ---- buffers

-- whether an event has no buffer but one of so many
abbrev pub is_within : ℕ → PoolEvent → Bool
is_within n (Got buffer) = ltb buffer n
is_within n Empty = true
is_within n (Given buffer) = ltb buffer n
is_within n Missed = true

record IsWithin (n : ℕ) (events : List PoolEvent) : Type 0 where
  queue : AllByRecursion (λ buffer. buffer < n) (queue_after n events)
  each : AllByRecursion (λ event. is_within n event ≡ true) events

-- a buffer that was got is within
got_case : (n buffer other : ℕ) (b : Bool) (events : List PoolEvent) → eqb other buffer ≡ b → ltb other n ≡ true → 0 < one_if b + count_by (is_got buffer) events → (0 < count_by (is_got buffer) events → buffer < n)
    → buffer < n
got_case n buffer other true events same low some rest = let is = eqb-true other buffer same in let below = ltb-true other n low in omega (arith, is, below)
got_case n buffer other false events same low some rest = rest (omega (arith, some))

got_within : (n buffer : ℕ) (events : List PoolEvent) → AllByRecursion (λ event. is_within n event ≡ true) events → 0 < count_by (is_got buffer) events → buffer < n
got_within n buffer [] all some = absurd (omega (arith, some))
got_within n buffer (Got other ∷ events) all some =
    let first = count_cons (is_got buffer) (Got other) events in
    got_case n buffer other (eqb other buffer) events refl all.0 (omega (arith, first, some)) (got_within n buffer events all.1)
got_within n buffer (Empty ∷ events) all some = let first = count_cons (is_got buffer) Empty events in got_within n buffer events all.1 (omega (arith, first, some))
got_within n buffer (Given other ∷ events) all some = let first = count_cons (is_got buffer) (Given other) events in got_within n buffer events all.1 (omega (arith, first, some))
got_within n buffer (Missed ∷ events) all some = let first = count_cons (is_got buffer) Missed events in got_within n buffer events all.1 (omega (arith, first, some))

front_within : (n buffer : ℕ) (queue : List ℕ) → AllByRecursion (λ b. b < n) queue → slice_get queue 0 ≡ Some buffer → buffer < n
front_within n buffer [] all h = let no : None ≡ Some buffer = h in absurd cc
front_within n buffer (first ∷ queue) all h = let same = same_Some first buffer h in let low = all.0 in omega (arith, same, low)

rest_within : (n : ℕ) (queue : List ℕ) → AllByRecursion (λ b. b < n) queue → AllByRecursion (λ b. b < n) (drop 1 queue)
rest_within n [] all = tt
rest_within n (first ∷ queue) all = all.1

more_within : (n buffer : ℕ) (queue : List ℕ) → AllByRecursion (λ b. b < n) queue → buffer < n → AllByRecursion (λ b. b < n) (queue ++ buffer ∷ [])
more_within n buffer [] all low = (low, tt)
more_within n buffer (first ∷ queue) all low = (all.0, more_within n buffer queue all.1 low)

withins : (n : ℕ) (events : List PoolEvent) → IsHistoryBack n events → IsWithin n events
withins n [] h = record { queue = all_below 0 n n (omega arith); each = tt }
withins n (Got buffer ∷ events) h =
    let w = withins n events h.0 in
    record { queue = rest_within n (queue_after n events) w.queue; each = (lt-ltb buffer n (front_within n buffer (queue_after n events) w.queue h.1), w.each) }
withins n (Empty ∷ events) h = let w = withins n events h.0 in record { queue = w.queue; each = (refl, w.each) }
withins n (Given buffer ∷ events) h =
    let w = withins n events h.0 in
    let less = h.1 in
    let low = got_within n buffer events w.each (omega (arith, less)) in
    record { queue = more_within n buffer (queue_after n events) w.queue low; each = (lt-ltb buffer n low, w.each) }
withins n (Missed ∷ events) h = let w = withins n events h.0 in record { queue = w.queue; each = (refl, w.each) }

-- ---- counts

abbrev pub is_get : PoolEvent → Bool
is_get (Got buffer) = true
is_get Empty = false
is_get (Given buffer) = false
is_get Missed = false

abbrev pub is_give : PoolEvent → Bool
is_give (Got buffer) = false
is_give Empty = false
is_give (Given buffer) = true
is_give Missed = false

-- each event is of one of four kinds
pub kinds : (events : List PoolEvent) → length events ≡ count_by is_get events + count_by is_empty events + (count_by is_give events + count_by is_missed events)
kinds [] = refl
kinds (event ∷ events) =
    let a = count_cons is_get event events in
    let b = count_cons is_empty event events in
    let c = count_cons is_give event events in
    let d = count_cons is_missed event events in
    let here = one_kind event in
    let rest = kinds events in
    omega (arith, a, b, c, d, here, rest)
  where
    one_kind : (event : PoolEvent) → 1 ≡ one_if (is_get event) + one_if (is_empty event) + (one_if (is_give event) + one_if (is_missed event))
    one_kind (Got buffer) = refl
    one_kind Empty = refl
    one_kind (Given buffer) = refl
    one_kind Missed = refl

-- gets and gives of buffers below one
abbrev gets_below : ℕ → PoolEvent → Bool
gets_below n (Got buffer) = ltb buffer n
gets_below n Empty = false
gets_below n (Given buffer) = false
gets_below n Missed = false

abbrev gives_below : ℕ → PoolEvent → Bool
gives_below n (Got buffer) = false
gives_below n Empty = false
gives_below n (Given buffer) = ltb buffer n
gives_below n Missed = false

below_more : (p q r : PoolEvent → Bool) → ((event : PoolEvent) → one_if (p event) ≡ one_if (q event) + one_if (r event)) → (events : List PoolEvent) → count_by p events ≡ count_by q events + count_by r events
below_more p q r each [] = refl
below_more p q r each (event ∷ events) =
    let a = count_cons p event events in
    let b = count_cons q event events in
    let c = count_cons r event events in
    let here = each event in
    let rest = below_more p q r each events in
    omega (arith, a, b, c, here, rest)

get_more : (n : ℕ) (event : PoolEvent) → one_if (gets_below (n + 1) event) ≡ one_if (gets_below n event) + one_if (is_got n event)
get_more n (Got buffer) = below_case buffer n (ltb buffer (n + 1)) (ltb buffer n) (eqb buffer n) refl refl refl
get_more n Empty = refl
get_more n (Given buffer) = refl
get_more n Missed = refl

give_more : (n : ℕ) (event : PoolEvent) → one_if (gives_below (n + 1) event) ≡ one_if (gives_below n event) + one_if (is_given n event)
give_more n (Got buffer) = refl
give_more n Empty = refl
give_more n (Given buffer) = below_case buffer n (ltb buffer (n + 1)) (ltb buffer n) (eqb buffer n) refl refl refl
give_more n Missed = refl

none_given : (events : List PoolEvent) → count_by (gives_below 0) events ≡ 0
none_given [] = refl
none_given (event ∷ events) =
    let first = count_cons (gives_below 0) event events in
    let rest = none_given events in
    let here = none_case event in
    omega (arith, first, rest, here)
  where
    zero_case : (buffer : ℕ) (b : Bool) → ltb buffer 0 ≡ b → one_if b ≡ 0
    zero_case buffer true e = let low = ltb-true buffer 0 e in absurd (omega (arith, low))
    zero_case buffer false e = refl

    none_case : (event : PoolEvent) → one_if (gives_below 0 event) ≡ 0
    none_case (Got buffer) = refl
    none_case Empty = refl
    none_case (Given buffer) = zero_case buffer (ltb buffer 0) refl
    none_case Missed = refl

-- where no buffer was given more often than got, there are no more gives than gets
few_below : (n : ℕ) (events : List PoolEvent) → ((buffer : ℕ) → count_by (is_given buffer) events ≤ count_by (is_got buffer) events) → count_by (gives_below n) events ≤ count_by (gets_below n) events
few_below zero events each = let none = none_given events in omega (arith, none)
few_below (suc n) events each =
    let a = below_more (gets_below (n + 1)) (gets_below n) (is_got n) (get_more n) events in
    let b = below_more (gives_below (n + 1)) (gives_below n) (is_given n) (give_more n) events in
    let rest = few_below n events each in
    let here = each n in
    let same : suc n ≡ n + 1 = omega arith in
    let c = ap (λ m. count_by (gives_below m) events) same in
    let d = ap (λ m. count_by (gets_below m) events) same in
    omega (arith, a, b, rest, here, c, d)

count_less : (p q : PoolEvent → Bool) (events : List PoolEvent) → AllByRecursion (λ event. one_if (p event) ≤ one_if (q event)) events → count_by p events ≤ count_by q events
count_less p q [] all = omega arith
count_less p q (event ∷ events) all =
    let a = count_cons p event events in
    let b = count_cons q event events in
    let here = all.0 in
    let rest = count_less p q events all.1 in
    omega (arith, a, b, here, rest)

all_gives : (n : ℕ) (events : List PoolEvent) → AllByRecursion (λ event. is_within n event ≡ true) events → AllByRecursion (λ event. one_if (is_give event) ≤ one_if (gives_below n event)) events
all_gives n [] all = tt
all_gives n (Got buffer ∷ events) all = (omega arith, all_gives n events all.1)
all_gives n (Empty ∷ events) all = (omega arith, all_gives n events all.1)
all_gives n (Given buffer ∷ events) all = let here = ap one_if all.0 in (omega (arith, here), all_gives n events all.1)
all_gives n (Missed ∷ events) all = (omega arith, all_gives n events all.1)

all_gets : (n : ℕ) (events : List PoolEvent) → AllByRecursion (λ event. one_if (gets_below n event) ≤ one_if (is_get event)) events
all_gets n [] = tt
all_gets n (Got buffer ∷ events) = (one_most (ltb buffer n), all_gets n events)
  where
    one_most : (b : Bool) → one_if b ≤ 1
    one_most true = omega arith
    one_most false = omega arith
all_gets n (Empty ∷ events) = (omega arith, all_gets n events)
all_gets n (Given buffer ∷ events) = (omega arith, all_gets n events)
all_gets n (Missed ∷ events) = (omega arith, all_gets n events)

gives_few : (n : ℕ) (events : List PoolEvent) → IsHistoryBack n events → count_by is_give events ≤ count_by is_get events
gives_few n events h =
    let a = count_less is_give (gives_below n) events (all_gives n events (withins n events h).each) in
    let b = few_below n events (λ buffer. (evens buffer n events h).behind) in
    let c = count_less (gets_below n) is_get events (all_gets n events) in
    omega (arith, a, b, c)

-- ---- a history in its order

pub record IsBounded (n : ℕ) (events : List PoolEvent) : Type 0 where
  pub buffers : count_by (is_within n) events ≡ length events
  pub gives : count_by is_give events ≤ count_by is_get events
  pub misses : count_by is_missed events ≤ count_by is_empty events

all_counted : {X : Type 0} (p : X → Bool) (xs : List X) → AllByRecursion (λ x. p x ≡ true) xs → count_by p xs ≡ length xs
all_counted p [] all = refl
all_counted p (x ∷ xs) all =
    let first = count_cons p x xs in
    let here = ap one_if all.0 in
    let rest = all_counted p xs all.1 in
    omega (arith, first, here, rest)

pub bounded : (n : ℕ) (events : List PoolEvent) → IsPoolHistory n events → IsBounded n events
bounded n events h =
    let w = all_counted (is_within n) (reverse events) (withins n (reverse events) h).each in
    let g = gives_few n (reverse events) h in
    let m = few_missed n (reverse events) h in
    let a = count_back (is_within n) events in
    let b = count_back is_give events in
    let c = count_back is_get events in
    let d = count_back is_missed events in
    let e = count_back is_empty events in
    let long = length-reverse events in
    record { buffers = omega (arith, w, a, long); gives = omega (arith, g, b, c); misses = omega (arith, m, d, e) }
