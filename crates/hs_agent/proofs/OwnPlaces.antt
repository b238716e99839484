-- No two chunks that are kept have one place, and none has the place of the chunk that was offered.
use Rattle.std.proofs.Common.{◌≡◌, ◌≢◌, ℕ, ◌+◌, ◌≤◌, ◌<◌, suc, zero, Bool, true, false, cond, ◌&&◌, List, [], ◌∷◌, ◌++◌, map, Option, Some, None, slice_get, find, nat_eq, eq-eqb, refl, sym, ap, ◌∙◌, arith, true≢false}
use Rattle.hs_agent.proofs.Prelude.{AllByRecursion, option_map_or, option_to_list, ne_eqb, map-append, map-map, by_answer, all_weaker, one_if, TraceId, same_trace, Indexed, PlainIndexedTrace, noted_of, is_of, nothing, chunks_left, Pin, Taken, trace_of, is_indexed, is_indexed_of, indexed_places, places_from, stands, count_of, IsInOnePlace, same_trace-true, same_trace-refl, Tagged, Placed, place_of, Kept, Holds, Point, AreApart, waiting_chunks, all_held}
use Rattle.hs_law_agent.specs.Standings.{passes}
use Rattle.hs_law_agent.proofs.Counts.{count-append}
use Rattle.hs_agent.proofs.Indexing.{same_swap}

-- ---- the places of an indexed trace

count-before : (place k : ℕ) (test : Taken → Bool) (taken : List Taken) → place < k → count_of (places_from k test taken) place ≡ 0
count-before place k test [] below = refl
count-before place k test (t ∷ ts) below = by (test t) (count-before place (suc k) test ts (omega arith))
  where
    by : (b : Bool) → count_of (places_from (suc k) test ts) place ≡ 0 → count_of (cond b (k ∷ places_from (suc k) test ts) (places_from (suc k) test ts)) place ≡ 0
    by true rest = let here = ap (λ b. one_if b + count_of (places_from (suc k) test ts) place) (ne_eqb k place (λ e. absurd (omega (arith, e, below)))) in omega (arith, here, rest)
    by false rest = rest

count-from : (k : ℕ) (test : Taken → Bool) (taken : List Taken) (i : ℕ) → count_of (places_from k test taken) (k + i) ≡ one_if (option_map_or test (slice_get taken i) false)
count-from k test [] i = refl
count-from k test (t ∷ ts) zero = by (test t) (count-before (k + 0) (suc k) test ts (omega arith))
  where
    by : (b : Bool) → count_of (places_from (suc k) test ts) (k + 0) ≡ 0 → count_of (cond b (k ∷ places_from (suc k) test ts) (places_from (suc k) test ts)) (k + 0) ≡ one_if b
    by true rest =
        let here = ap (λ b. one_if b + count_of (places_from (suc k) test ts) (k + 0)) (eq-eqb k (k + 0) (omega arith)) in
        here ∙ ap (λ n. 1 + n) rest
    by false rest = rest
count-from k test (t ∷ ts) (suc i) = by (test t) (ap (count_of (places_from (suc k) test ts)) (let e : k + suc i ≡ suc k + i = omega arith in e) ∙ count-from (suc k) test ts i)
  where
    by : (b : Bool) → count_of (places_from (suc k) test ts) (k + suc i) ≡ one_if (option_map_or test (slice_get ts i) false)
        → count_of (cond b (k ∷ places_from (suc k) test ts) (places_from (suc k) test ts)) (k + suc i) ≡ one_if (option_map_or test (slice_get ts i) false)
    by true rest = let here = ap (λ b. one_if b + count_of (places_from (suc k) test ts) (k + suc i)) (ne_eqb k (k + suc i) (λ e. absurd (omega (arith, e)))) in omega (arith, here, rest)
    by false rest = rest

count-indexed : (taken : List Taken) (trace : TraceId) (q : ℕ) → count_of (indexed_places taken trace) q ≡ one_if (passes (is_indexed_of trace) taken q)
count-indexed taken trace q = ap (count_of (indexed_places taken trace)) (let e : q ≡ 0 + q = omega arith in e) ∙ count-from 0 (is_indexed_of trace) taken q

-- ---- the chunks of all indexed traces

abbrev pub Traced : Type 0 → Type 0
Traced L = Indexed (Tagged L)

-- each trace has its own chunks
each-noted : {L : Type 0} → (ts : List (Traced L)) → AreApart ts → AllByRecursion (λ (t : Traced L). noted_of t.trace ts ≡ t.noted) ts
each-noted [] apart = tt
each-noted {L} (t ∷ ts) apart = (
  ap (λ b. option_map_or (λ (u : Traced L). u.noted) (cond b (Some t) (find (is_of t.trace) ts)) nothing) (same_trace-refl t.trace),
  later ts ts apart.0 (each-noted ts apart.1),
)
  where
    later : (us ts : List (Traced L)) → AllByRecursion (λ (u : Traced L). same_trace t.trace u.trace ≡ false) us → AllByRecursion (λ (u : Traced L). noted_of u.trace ts ≡ u.noted) us
        → AllByRecursion (λ (u : Traced L). noted_of u.trace (t ∷ ts) ≡ u.noted) us
    later [] ts apart noted = tt
    later (u ∷ us) ts apart noted = (
      ap (λ b. option_map_or (λ (v : Traced L). v.noted) (cond b (Some t) (find (is_of u.trace) ts)) nothing) (same_swap u.trace t.trace ∙ apart.0) ∙ noted.0,
      later us ts apart.1 noted.1,
    )

module _ (taken : List Taken) where
  abbrev pub HasPlaces : {L : Type 0} → Traced L → Type 0
  HasPlaces t = map place_of t.noted.chunks ≡ indexed_places taken t.trace

  count-left : {L : Type 0} → (t : Traced L) (ts : List (Traced L)) (q : ℕ) → HasPlaces t → count_of (map place_of (chunks_left (t ∷ ts))) q ≡ one_if (passes (is_indexed_of t.trace) taken q) + count_of (map place_of (chunks_left ts)) q
  count-left t ts q has =
      ap (λ l. count_of l q) (map-append place_of t.noted.chunks (chunks_left ts))
      ∙ count-append (map place_of t.noted.chunks) (map place_of (chunks_left ts)) q
      ∙ ap (λ n. n + count_of (map place_of (chunks_left ts)) q) (ap (λ l. count_of l q) has ∙ count-indexed taken t.trace q)

  both-left : (a b : Bool) → (a && b) ≡ true → a ≡ true
  both-left true b e = refl
  both-left false b e = e

  both-right : (a b : Bool) → (a && b) ≡ true → b ≡ true
  both-right true b e = e
  both-right false b e = absurd (true≢false (sym e))

  and-no : (b : Bool) → (b && false) ≡ false
  and-no true = refl
  and-no false = refl

  -- what is of one trace is of no other
  of_one : {L : Type 0} → (t u : Traced L) (q : ℕ) → same_trace t.trace u.trace ≡ false → passes (is_indexed_of t.trace) taken q ≡ true → passes (is_indexed_of u.trace) taken q ≡ false
  of_one t u q apart e = by (slice_get taken q) e
    where
      by : (found : Option Taken) → option_map_or (is_indexed_of t.trace) found false ≡ true → option_map_or (is_indexed_of u.trace) found false ≡ false
      by None f = absurd (true≢false (sym f))
      by (Some c) f =
          let same : t.trace ≡ trace_of c = same_trace-true t.trace (trace_of c) (both-right (is_indexed c.standing) (same_trace t.trace (trace_of c)) f) in
          ap (λ b. is_indexed c.standing && b) (ap (same_trace u.trace) (sym same) ∙ same_swap u.trace t.trace ∙ apart) ∙ and-no (is_indexed c.standing)

  none_left : {L : Type 0} → (t : Traced L) (us : List (Traced L)) (q : ℕ) → AllByRecursion (λ (u : Traced L). same_trace t.trace u.trace ≡ false) us → AllByRecursion HasPlaces us → passes (is_indexed_of t.trace) taken q ≡ true
      → count_of (map place_of (chunks_left us)) q ≡ 0
  none_left t [] q apart has e = refl
  none_left t (u ∷ us) q apart has e =
      let here = count-left u us q has.0 ∙ ap (λ b. one_if b + count_of (map place_of (chunks_left us)) q) (of_one t u q apart.0 e) in
      let rest = none_left t us q apart.1 has.1 e in
      omega (arith, here, rest)

  stands_so : (trace : TraceId) (q : ℕ) → passes (is_indexed_of trace) taken q ≡ true → stands is_indexed taken q ≡ true
  stands_so trace q e = by (slice_get taken q) e
    where
      by : (found : Option Taken) → option_map_or (is_indexed_of trace) found false ≡ true → option_map_or (λ (c : Taken). is_indexed c.standing) found false ≡ true
      by None f = f
      by (Some c) f = both-left (is_indexed c.standing) (same_trace trace (trace_of c)) f

  once_left : {L : Type 0} → (ts : List (Traced L)) (q : ℕ) → AreApart ts → AllByRecursion HasPlaces ts → count_of (map place_of (chunks_left ts)) q ≤ one_if (stands is_indexed taken q)
  once_left [] q apart has = omega arith
  once_left (t ∷ ts) q apart has =
      by_answer (passes (is_indexed_of t.trace) taken q)
      (λ e.
      let here = count-left t ts q has.0 in
      let one = ap one_if e in
      let none = none_left t ts q apart.0 has.1 e in
      let may = ap one_if (stands_so t.trace q e) in
      omega (arith, here, one, none, may))
      (λ e.
      let here = count-left t ts q has.0 in
      let no = ap one_if e in
      let rest = once_left ts q apart.1 has.1 in
      omega (arith, here, no, rest))

-- ---- lists in which each place stands once

differ-none : {L : Type 0} → (q : ℕ) (placeds : List (Placed L)) → count_of (map place_of placeds) q ≡ 0 → AllByRecursion (λ (other : Placed L). q ≢ place_of other) placeds
differ-none q [] e = tt
differ-none q (p ∷ ps) e = by_answer (nat_eq (place_of p) q)
    (λ same. let one = ap one_if same in absurd (omega (arith, e, one)))
    (λ other. (λ is. absurd (true≢false (sym (eq-eqb (place_of p) q (sym is)) ∙ other)), differ-none q ps (let no = ap one_if other in omega (arith, e, no))))

-- ---- what is kept

-- each indexed trace has the places of the model
pub have_places : {L : Type 0} (kept : Kept L) (point : Point L) → Holds kept point → AllByRecursion (HasPlaces point.state.taken) kept.index.touched
have_places {L} kept point h =
    all_weaker (λ (t : Traced L). noted_of t.trace kept.index.touched ≡ t.noted) (HasPlaces point.state.taken)
    (λ t e. ap (λ (n : PlainIndexedTrace (Tagged L)). map place_of n.chunks) (sym e) ∙ h.index.touched.places t.trace) kept.index.touched (each-noted kept.index.touched h.index.touched.apart)

module _ {L : Type 0} (kept : Kept L) (point : Point L) (h : Holds kept point) (one : (place : ℕ) → IsInOnePlace point.state place) where
  -- each place stands once, the offered one too
  pub once : (q : ℕ) → count_of (map place_of (all_held kept h.memory.pinned)) q + count_of (option_to_list point.offered) q ≤ 1
  once q =
      let pinned : List (Pin (Tagged L)) = h.memory.pinned in
      let indexed : List (Placed L) = chunks_left kept.index.touched in
      let pins : List (Placed L) = map (λ (pin : Pin (Tagged L)). pin.chunk) pinned in
      let all = ap (λ l. count_of l q) (map-append place_of (indexed ++ pins) kept.hand) ∙ count-append (map place_of (indexed ++ pins)) (map place_of kept.hand) q in
      let wait = ap (λ l. count_of l q) (map-append place_of indexed pins) ∙ count-append (map place_of indexed) (map place_of pins) q in
      let few = once_left point.state.taken kept.index.touched q h.index.touched.apart (have_places kept point h) in
      let pin = ap (λ l. count_of l q) (map-map place_of (λ (pin : Pin (Tagged L)). pin.chunk) pinned ∙ h.pins.pinned) in
      let hand = sym (count-append (option_to_list point.offered) (map place_of kept.hand) q) ∙ ap (λ l. count_of l q) h.hand in
      let part = one q in
      let at_most = within (stands (λ _. true) point.state.taken q) in
      omega (arith, all, wait, few, pin, hand, part, at_most)
    where
      within : (b : Bool) → one_if b ≤ 1
      within true = omega arith
      within false = omega arith

  -- no chunk that is kept has the place of the offered one
  pub apart_from_offered : (place : ℕ) → point.offered ≡ Some place → AllByRecursion (λ (other : Placed L). place ≢ place_of other) (all_held kept h.memory.pinned)
  apart_from_offered place out =
      differ-none place (all_held kept h.memory.pinned)
      (let most = once place in
      let here = ap (λ o. count_of (option_to_list o) place) out ∙ ap (λ b. one_if b + 0) (eq-eqb place place refl) in
      omega (arith, most, here))

  -- the first of the hand has a place of its own
  pub apart_from_first : (first : Placed L) (rest : List (Placed L)) → kept.hand ≡ first ∷ rest
      → AllByRecursion (λ (other : Placed L). place_of first ≢ place_of other) (waiting_chunks kept h.memory.pinned ++ rest)
  apart_from_first first rest is =
      let wait : List (Placed L) = waiting_chunks kept h.memory.pinned in
      let q = place_of first in
      differ-none q (wait ++ rest)
      (let most = once q in
      let all = ap (λ l. count_of l q) (map-append place_of wait kept.hand) ∙ count-append (map place_of wait) (map place_of kept.hand) q in
      let hand = ap (λ (l : List (Placed L)). count_of (map place_of l) q) is in
      let here = ap (λ b. one_if b + count_of (map place_of rest) q) (eq-eqb q q refl) in
      let left = ap (λ l. count_of l q) (map-append place_of wait rest) ∙ count-append (map place_of wait) (map place_of rest) q in
      omega (arith, most, all, hand, here, left))
