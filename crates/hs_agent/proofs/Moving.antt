-- Which chunks stand anew where those at some places do, and what is indexed and pinned then.
use Rattle.std.proofs.Common.{◌≡◌, ℕ, ◌+◌, ◌<◌, zero, suc, Bool, true, false, cond, ◌||◌, ◌&&◌, List, [], ◌∷◌, length, map, filter, Option, Some, None, slice_get, nat_eq, eq-eqb, refl, sym, ap, ◌∙◌, arith}
use Rattle.hs_agent.proofs.Prelude.{AllByRecursion, option_map, option_map_or, option_and_then, eqb-true, true≢false, ne_eqb, by_answer, all_weaker, TraceId, moved_from, moved, is_among, places_from, indexed_places, indexed_count, is_indexed, is_indexed_of, trace_of, pinned_for, pinning_group, Taken, ChunkStanding, Pinned, Reported, Evicted, Abandoned, Group, same_trace, mark_of, left_of}
use Rattle.hs_law_agent.specs.Standings.{Indexed}
use Rattle.hs_agent.proofs.GivingWay.{unmoved}

-- a chunk that stands anew where it passes a test
abbrev pub stood : (Taken → Bool) → (ChunkStanding → ChunkStanding) → Taken → Taken
stood test change chunk = cond (test chunk) (record chunk { standing = change chunk.standing }) chunk

-- ---- the places that pass a test

not_before : (place k : ℕ) (test : Taken → Bool) (taken : List Taken) → place < k → is_among (places_from k test taken) place ≡ false
not_before place k test [] below = refl
not_before place k test (t ∷ ts) below = by (test t) (not_before place (suc k) test ts (omega arith))
  where
    by : (b : Bool) → is_among (places_from (suc k) test ts) place ≡ false → is_among (cond b (k ∷ places_from (suc k) test ts) (places_from (suc k) test ts)) place ≡ false
    by true rest = ap (λ b. b || is_among (places_from (suc k) test ts) place) (ne_eqb k place (λ e. absurd (omega (arith, e, below)))) ∙ rest
    by false rest = rest

among_from : (k : ℕ) (test : Taken → Bool) (taken : List Taken) (i : ℕ) → is_among (places_from k test taken) (k + i) ≡ option_map_or test (slice_get taken i) false
among_from k test [] i = refl
among_from k test (t ∷ ts) zero = by (test t) refl
  where
    by : (b : Bool) → test t ≡ b → is_among (cond b (k ∷ places_from (suc k) test ts) (places_from (suc k) test ts)) (k + 0) ≡ test t
    by true e = ap (λ b. b || is_among (places_from (suc k) test ts) (k + 0)) (eq-eqb k (k + 0) (omega arith)) ∙ sym e
    by false e = not_before (k + 0) (suc k) test ts (omega arith) ∙ sym e
among_from k test (t ∷ ts) (suc i) = by (test t) (ap (is_among (places_from (suc k) test ts)) (let e : k + suc i ≡ suc k + i = omega arith in e) ∙ among_from (suc k) test ts i)
  where
    by : (b : Bool) → is_among (places_from (suc k) test ts) (k + suc i) ≡ option_map_or test (slice_get ts i) false
        → is_among (cond b (k ∷ places_from (suc k) test ts) (places_from (suc k) test ts)) (k + suc i) ≡ option_map_or test (slice_get ts i) false
    by true rest = ap (λ b. b || is_among (places_from (suc k) test ts) (k + suc i)) (ne_eqb k (k + suc i) (λ e. absurd (omega (arith, e)))) ∙ rest
    by false rest = rest

-- a place is among those that pass a test where its chunk passes it
pub among_passing : (test : Taken → Bool) (taken : List Taken) (i : ℕ) → is_among (places_from 0 test taken) i ≡ option_map_or test (slice_get taken i) false
among_passing test taken i = ap (is_among (places_from 0 test taken)) (let e : i ≡ 0 + i = omega arith in e) ∙ among_from 0 test taken i

moved_as : (places : List ℕ) (test : Taken → Bool) (change : ChunkStanding → ChunkStanding) (k : ℕ) (taken : List Taken)
    → ((i : ℕ) → is_among places (k + i) ≡ option_map_or test (slice_get taken i) false) → moved_from k places change taken ≡ map (stood test change) taken
moved_as places test change k [] h = refl
moved_as places test change k (t ∷ ts) h =
    ap (λ b. cond b (record t { standing = change t.standing }) t ∷ moved_from (suc k) places change ts) (ap (is_among places) (let e : k ≡ k + 0 = omega arith in e) ∙ h 0)
    ∙ ap (λ l. stood test change t ∷ l) (moved_as places test change (suc k) ts (λ i. ap (is_among places) (let e : suc k + i ≡ k + suc i = omega arith in e) ∙ h (suc i)))

pub moved_where : (test : Taken → Bool) (change : ChunkStanding → ChunkStanding) (taken : List Taken) → moved (places_from 0 test taken) change taken ≡ map (stood test change) taken
moved_where test change taken = moved_as (places_from 0 test taken) test change 0 taken (among_from 0 test taken)

-- ---- whatever moves

module _ (places : List ℕ) (change : ChunkStanding → ChunkStanding) where
  -- the chunk at a place, after the move
  abbrev pub moved_chunk : ℕ → Taken → Taken
  moved_chunk i chunk = cond (is_among places i) (record chunk { standing = change chunk.standing }) chunk

  at_from : (k : ℕ) (taken : List Taken) (i : ℕ) → slice_get (moved_from k places change taken) i ≡ option_map (moved_chunk (k + i)) (slice_get taken i)
  at_from k [] i = refl
  at_from k (t ∷ ts) zero = ap (λ p. Some (moved_chunk p t)) (let e : k ≡ k + 0 = omega arith in e)
  at_from k (t ∷ ts) (suc i) = at_from (suc k) ts i ∙ ap (λ p. option_map (moved_chunk p) (slice_get ts i)) (let e : suc k + i ≡ k + suc i = omega arith in e)

  pub slice_get-moved : (taken : List Taken) (i : ℕ) → slice_get (moved places change taken) i ≡ option_map (moved_chunk i) (slice_get taken i)
  slice_get-moved taken i = at_from 0 taken i ∙ ap (λ p. option_map (moved_chunk p) (slice_get taken i)) (let e : 0 + i ≡ i = omega arith in e)

-- ---- the indexed chunks of a trace stand anew, and are indexed no more

module _ (gone : TraceId) (stands : ChunkStanding) (out : is_indexed stands ≡ false) where
  abbrev goes : Taken → Taken
  goes = stood (is_indexed_of gone) (λ _. stands)

  not_indexed : (t : Taken) (trace : TraceId) → is_indexed_of trace (record t { standing = stands }) ≡ false
  not_indexed t trace = ap (λ b. b && same_trace trace (trace_of t)) out

  and-no : (b : Bool) → (b && false) ≡ false
  and-no true = refl
  and-no false = refl

  both : (indexed same : Bool) → (indexed && same) ≡ true → same ≡ true
  both true true e = refl
  both true false e = absurd (true≢false (sym e))
  both false same e = absurd (true≢false (sym e))

  -- the chunks of another trace stay as they stand
  other_trace : (trace : TraceId) → same_trace gone trace ≡ false → (t : Taken) → is_indexed_of trace (goes t) ≡ is_indexed_of trace t
  other_trace trace apart t = by_answer (is_indexed_of gone t)
      (λ y. ap (λ b. is_indexed_of trace (cond b (record t { standing = stands }) t)) y
      ∙ not_indexed t trace
      ∙ sym (ap (λ s. is_indexed t.standing && s) (differs (both (is_indexed t.standing) (same_trace gone (trace_of t)) y) (same_trace trace (trace_of t)) refl) ∙ and-no (is_indexed t.standing)))
      (λ n. ap (λ b. is_indexed_of trace (cond b (record t { standing = stands }) t)) n)
    where
      differs : same_trace gone (trace_of t) ≡ true → (same : Bool) → same_trace trace (trace_of t) ≡ same → same ≡ false
      differs e false f = refl
      differs e true f = absurd (true≢false (sym (eq-eqb gone.0 trace.0 (eqb-true gone.0 (trace_of t).0 e ∙ sym (eqb-true trace.0 (trace_of t).0 f))) ∙ apart))

  same_from : (trace : TraceId) → same_trace gone trace ≡ false → (k : ℕ) (taken : List Taken) → places_from k (is_indexed_of trace) (map goes taken) ≡ places_from k (is_indexed_of trace) taken
  same_from trace apart k [] = refl
  same_from trace apart k (t ∷ ts) =
      ap (λ b. cond b (k ∷ places_from (suc k) (is_indexed_of trace) (map goes ts)) (places_from (suc k) (is_indexed_of trace) (map goes ts))) (other_trace trace apart t)
      ∙ ap (λ l. cond (is_indexed_of trace t) (k ∷ l) l) (same_from trace apart (suc k) ts)

  -- none of the trace is left
  none_here : (t : Taken) → is_indexed_of gone (goes t) ≡ false
  none_here t = by_answer (is_indexed_of gone t)
      (λ y. ap (λ b. is_indexed_of gone (cond b (record t { standing = stands }) t)) y ∙ not_indexed t gone)
      (λ n. ap (λ b. is_indexed_of gone (cond b (record t { standing = stands }) t)) n ∙ n)

  none_from : (k : ℕ) (taken : List Taken) → places_from k (is_indexed_of gone) (map goes taken) ≡ []
  none_from k [] = refl
  none_from k (t ∷ ts) =
      ap (λ b. cond b (k ∷ places_from (suc k) (is_indexed_of gone) (map goes ts)) (places_from (suc k) (is_indexed_of gone) (map goes ts))) (none_here t) ∙ none_from (suc k) ts

  fewer_from : (k : ℕ) (taken : List Taken) → indexed_count (map goes taken) + length (places_from k (is_indexed_of gone) taken) ≡ indexed_count taken
  fewer_from k [] = refl
  fewer_from k (t ∷ ts) = by (is_indexed t.standing) (same_trace gone (trace_of t)) refl (fewer_from (suc k) ts)
    where
      rest_of : List Taken
      rest_of = filter (λ (c : Taken). is_indexed c.standing) (map goes ts)

      by : (indexed same : Bool) → is_indexed t.standing ≡ indexed → indexed_count (map goes ts) + length (places_from (suc k) (is_indexed_of gone) ts) ≡ indexed_count ts
          → length (filter (λ (c : Taken). is_indexed c.standing) (cond (indexed && same) (record t { standing = stands }) t ∷ map goes ts))
          + length (cond (indexed && same) (k ∷ places_from (suc k) (is_indexed_of gone) ts) (places_from (suc k) (is_indexed_of gone) ts))
          ≡ length (cond indexed (t ∷ filter (λ (c : Taken). is_indexed c.standing) ts) (filter (λ (c : Taken). is_indexed c.standing) ts))
      by true true e rest =
          let here = ap (λ b. length (cond b (record t { standing = stands } ∷ filter (λ (c : Taken). is_indexed c.standing) (map goes ts)) (filter (λ (c : Taken). is_indexed c.standing) (map goes ts)))) out in
          omega (arith, rest, here)
      by true false e rest =
          let here = ap (λ b. length (cond b (t ∷ filter (λ (c : Taken). is_indexed c.standing) (map goes ts)) (filter (λ (c : Taken). is_indexed c.standing) (map goes ts)))) e in
          omega (arith, rest, here)
      by false same e rest =
          let here = ap (λ b. length (cond b (t ∷ filter (λ (c : Taken). is_indexed c.standing) (map goes ts)) (filter (λ (c : Taken). is_indexed c.standing) (map goes ts)))) e in
          omega (arith, rest, here)

  module _ (taken : List Taken) where
    abbrev left : List Taken
    left = moved (indexed_places taken gone) (λ _. stands) taken

    are : left ≡ map goes taken
    are = moved_where (is_indexed_of gone) (λ _. stands) taken

    pub places-other : (trace : TraceId) → same_trace gone trace ≡ false → indexed_places left trace ≡ indexed_places taken trace
    places-other trace apart = ap (λ l. indexed_places l trace) are ∙ same_from trace apart 0 taken

    pub places-gone : indexed_places left gone ≡ []
    places-gone = ap (λ l. indexed_places l gone) are ∙ none_from 0 taken

    pub count-left : indexed_count left + length (indexed_places taken gone) ≡ indexed_count taken
    count-left = ap (λ l. indexed_count l + length (indexed_places taken gone)) are ∙ fewer_from 0 taken

-- ---- what is pinned is not indexed

unindexed : (group : Group) (standing : ChunkStanding) (b : Bool) → pinning_group standing ≡ Some group → (is_indexed standing && b) ≡ false
unindexed group Indexed b e = cc
unindexed group (Pinned g) b e = refl
unindexed group (Reported g) b e = refl
unindexed group (Evicted chunks traces) b e = refl
unindexed group (Abandoned g) b e = refl

-- a pinned chunk stays so where a trace's indexed chunks stand anew
pub pinned_for-leaving : (trace : TraceId) (change : ChunkStanding → ChunkStanding) (taken : List Taken) (place : ℕ) (group : Group) → pinned_for taken place ≡ Some group
    → pinned_for (moved (indexed_places taken trace) change taken) place ≡ Some group
pinned_for-leaving trace change taken place group e =
    unmoved (indexed_places taken trace) change taken place (among_passing (is_indexed_of trace) taken place ∙ by (slice_get taken place) e) ∙ e
  where
    by : (o : Option Taken) → option_and_then (λ (t : Taken). pinning_group t.standing) o ≡ Some group → option_map_or (is_indexed_of trace) o false ≡ false
    by None h = refl
    by (Some t) h = unindexed group t.standing (same_trace trace (trace_of t)) h

all-among : (places : List ℕ) → AllByRecursion (λ (place : ℕ). is_among places place ≡ true) places
all-among [] = tt
all-among (p ∷ places) = (
  ap (λ b. b || is_among places p) (eq-eqb p p refl),
  all_weaker (λ (place : ℕ). is_among places place ≡ true) (λ (place : ℕ). is_among (p ∷ places) place ≡ true) (λ place e. ap (λ b. nat_eq p place || b) e ∙ or-true (nat_eq p place)) places (all-among places),
)
  where
    or-true : (b : Bool) → (b || true) ≡ true
    or-true true = refl
    or-true false = refl

-- the indexed chunks of a trace are pinned for a group that takes it
pub pinned_for-taken : (trace : TraceId) (group : Group) (taken : List Taken)
    → AllByRecursion (λ (place : ℕ). pinned_for (moved (indexed_places taken trace) (λ _. Pinned group) taken) place ≡ Some group) (indexed_places taken trace)
pinned_for-taken trace group taken =
    let places = indexed_places taken trace in
    all_weaker (λ (place : ℕ). is_among places place ≡ true) (λ (place : ℕ). pinned_for (moved places (λ _. Pinned group) taken) place ≡ Some group)
    (λ place e. ap (option_and_then (λ (t : Taken). pinning_group t.standing)) (slice_get-moved places (λ _. Pinned group) taken place)
    ∙ here place e (slice_get taken place) (sym (among_passing (is_indexed_of trace) taken place) ∙ e))
    places (all-among places)
  where
    here : (place : ℕ) → is_among (indexed_places taken trace) place ≡ true → (o : Option Taken) → option_map_or (is_indexed_of trace) o false ≡ true
        → option_and_then (λ (t : Taken). pinning_group t.standing) (option_map (moved_chunk (indexed_places taken trace) (λ _. Pinned group) place) o) ≡ Some group
    here place e None h = absurd (true≢false (sym h))
    here place e (Some t) h = ap (λ b. pinning_group (cond b (record t { standing = Pinned group }) t).standing) e

-- a chunk that is pinned in the place of indexed has no other fate
indexed_live : (standing : ChunkStanding) (b : Bool) → (is_indexed standing && b) ≡ true → left_of standing ≡ None
indexed_live Indexed b e = refl
indexed_live (Pinned g) b e = refl
indexed_live (Reported g) b e = absurd (true≢false (sym e))
indexed_live (Evicted chunks traces) b e = absurd (true≢false (sym e))
indexed_live (Abandoned g) b e = absurd (true≢false (sym e))

pub standings-taken : (trace : TraceId) (group : Group) (taken : List Taken) → map mark_of (moved (indexed_places taken trace) (λ _. Pinned group) taken) ≡ map mark_of taken
standings-taken trace group taken = ap (map mark_of) (moved_where (is_indexed_of trace) (λ _. Pinned group) taken) ∙ by taken
  where
    here : (t : Taken) → mark_of (stood (is_indexed_of trace) (λ _. Pinned group) t) ≡ mark_of t
    here t = by_answer (is_indexed_of trace t)
        (λ y. ap (λ b. mark_of (cond b (record t { standing = Pinned group }) t)) y
        ∙ (λ i. record { client = t.sheet.header.client; page = t.sheet.header.page; left = sym (indexed_live t.standing (same_trace trace (trace_of t)) y) i }))
        (λ n. ap (λ b. mark_of (cond b (record t { standing = Pinned group }) t)) n)

    by : (ts : List Taken) → map mark_of (map (stood (is_indexed_of trace) (λ _. Pinned group)) ts) ≡ map mark_of ts
    by [] = refl
    by (t ∷ ts) = ap (λ s. s ∷ map mark_of (map (stood (is_indexed_of trace) (λ _. Pinned group)) ts)) (here t) ∙ ap (λ l. mark_of t ∷ l) (by ts)
