-- The ring of ids goes as the ring of whole records does.
use Rattle.std.proofs.Common.{◌≡◌, ℕ, ◌+◌, ◌-◌, cond, ◌==◌, ◌||◌, Bool, true, false, List, [], ◌∷◌, ◌++◌, length, drop, filter, map, refl, sym, ap, ap₂, ◌∙◌, subst, arith, append_assoc}
use Rattle.hs_compare.proofs.Prelude.{not, fold, count_by, flat_map, map-append, append-nil, sum_by_push, length_map, TraceId, is_among, SamplerRing, is_of, last_ones, ring_step, each_once, is_noted_of, ids_in, traces_in, last_noted, event_of, ring_after, rings_after, ringing_by}
use Rattle.hs_base.proofs.Parts.{map_drop}
use Rattle.hs_base.proofs.Filters.{filter_mapped}
use Rattle.hs_compare.specs.Coming.{Coming}
use Rattle.hs_compare.specs.Coming as samplers
use Rattle.hs_compare.specs.Samplers as rings
use Rattle.hs_compare.specs.Whole.{noted_of}
use Rattle.hs_compare.proofs.Counted.{among_more, once_more}
use Rattle.hs_compare.proofs.Queued.{same_ids}
use Rattle.hs_compare.proofs.Tails.{ringing}

ids_noted : (cs : List Coming) → ids_in (map noted_of cs) ≡ map (λ (c : Coming). c.id) cs
ids_noted [] = refl
ids_noted (c ∷ cs) = ap (λ ids. c.id ∷ ids) (ids_noted cs)

traces_noted : (cs : List Coming) → traces_in (map noted_of cs) ≡ map (λ (c : Coming). c.trace) cs
traces_noted [] = refl
traces_noted (c ∷ cs) = ap (λ ts. c.trace ∷ ts) (traces_noted cs)

last_same : (room : ℕ) (cs : List Coming) → last_noted room (map noted_of cs) ≡ map noted_of (last_ones room cs)
last_same room cs = ap (λ n. drop (n - room) (map noted_of cs)) (length_map noted_of cs) ∙ sym (map_drop noted_of (length cs - room) cs)

one_step : (room : ℕ) (ring : SamplerRing) (e : samplers.SamplerEvent) → ring_after (ringing_by room ring) (event_of e) ≡ ringing_by room (ring_step room ring e)
one_step room ring (samplers.Comes c) = by (is_among ring.named c.trace)
  where
    by : (b : Bool)
        → cond b (ringing room (map noted_of ring.waiting) ring.named (map (λ (c : Coming). c.id) ring.kept ++ c.id ∷ []) (map (λ (c : Coming). c.trace) ring.kept ++ c.trace ∷ []))
        (ringing room (last_noted room (map noted_of ring.waiting ++ noted_of c ∷ [])) ring.named (map (λ (c : Coming). c.id) ring.kept) (map (λ (c : Coming). c.trace) ring.kept))
        ≡ ringing_by room (cond b (record ring { kept = ring.kept ++ c ∷ [] }) (record ring { waiting = last_ones room (ring.waiting ++ c ∷ []) }))
    by true =
        ap₂ (ringing room (map noted_of ring.waiting) ring.named) (sym (map-append (λ (c : Coming). c.id) ring.kept (c ∷ []))) (sym (map-append (λ (c : Coming). c.trace) ring.kept (c ∷ [])))
    by false =
        ap (λ ws. ringing room ws ring.named (map (λ (c : Coming). c.id) ring.kept) (map (λ (c : Coming). c.trace) ring.kept))
        (ap (last_noted room) (sym (map-append noted_of ring.waiting (c ∷ []))) ∙ last_same room (ring.waiting ++ c ∷ []))
one_step room ring (samplers.Names t) = by (is_among ring.named t)
  where
    own : List Coming
    own = filter (is_of t) ring.waiting

    by : (b : Bool)
        → cond b (ringing_by room ring)
        (ringing room (filter (λ n. not (is_noted_of t n)) (map noted_of ring.waiting)) (ring.named ++ t ∷ []) (map (λ (c : Coming). c.id) ring.kept ++ ids_in (filter (is_noted_of t) (map noted_of ring.waiting)))
        (map (λ (c : Coming). c.trace) ring.kept ++ traces_in (filter (is_noted_of t) (map noted_of ring.waiting))))
        ≡ ringing_by room (cond b ring (record { waiting = filter (λ c. not (is_of t c)) ring.waiting; named = ring.named ++ t ∷ []; kept = ring.kept ++ own }))
    by true = refl
    by false =
        let mine = filter_mapped noted_of (is_noted_of t) ring.waiting in
        ap (λ ws. ringing room ws (ring.named ++ t ∷ []) (map (λ (c : Coming). c.id) ring.kept ++ ids_in (filter (is_noted_of t) (map noted_of ring.waiting))) (map (λ (c : Coming). c.trace) ring.kept ++ traces_in (filter (is_noted_of t) (map noted_of ring.waiting))))
        (filter_mapped noted_of (λ n. not (is_noted_of t n)) ring.waiting)
        ∙ ap₂ (ringing room (map noted_of (filter (λ c. not (is_of t c)) ring.waiting)) (ring.named ++ t ∷ []))
        (ap (λ ids. map (λ (c : Coming). c.id) ring.kept ++ ids) (ap ids_in mine ∙ ids_noted own) ∙ sym (map-append (λ (c : Coming). c.id) ring.kept own))
        (ap (λ ts. map (λ (c : Coming). c.trace) ring.kept ++ ts) (ap traces_in mine ∙ traces_noted own) ∙ sym (map-append (λ (c : Coming). c.trace) ring.kept own))

-- a ring through any events
pub rings_are : (room : ℕ) (events : List samplers.SamplerEvent) (ring : SamplerRing) → rings_after (ringing_by room ring) (map event_of events) ≡ ringing_by room (fold (ring_step room) ring events)
rings_are room [] ring = refl
rings_are room (e ∷ events) ring = ap (λ r. rings_after r (map event_of events)) (one_step room ring e) ∙ rings_are room events (ring_step room ring e)

-- ---- what is named

-- each of the names once, in some order
pub record HasNames (all named : List TraceId) : Type 0 where
  pub among : (trace : TraceId) → is_among named trace ≡ is_among all trace
  pub once : (p : TraceId → Bool) → count_by p named ≡ count_by p (each_once all)

names_more : (all named : List TraceId) (t : TraceId) → HasNames all named → HasNames (all ++ t ∷ []) (cond (is_among named t) named (named ++ t ∷ []))
names_more all named t has = by (is_among named t) refl
  where
    by : (b : Bool) → is_among named t ≡ b → HasNames (all ++ t ∷ []) (cond b named (named ++ t ∷ []))
    by true e =
        record {
          among = λ other. has.among other ∙ again other (t.0 == other.0) refl ∙ sym (among_more all t other);
          once = λ p. has.once p ∙ same (count_by p (each_once all)) (cond (p t) 1 0) (sym (has.among t) ∙ e) ∙ sym (once_more p all t);
        }
      where
        again : (other : TraceId) (b : Bool) → (t.0 == other.0) ≡ b → is_among all other ≡ (is_among all other || b)
        again other true h = ap (is_among all) (sym (same_ids t other h)) ∙ (sym (has.among t) ∙ e) ∙ sym (or_true (is_among all other))
          where
            or_true : (b : Bool) → (b || true) ≡ true
            or_true true = refl
            or_true false = refl
        again other false h = sym (or_false (is_among all other))
          where
            or_false : (b : Bool) → (b || false) ≡ b
            or_false true = refl
            or_false false = refl

        same : (n k : ℕ) → is_among all t ≡ true → n ≡ n + cond (is_among all t) 0 k
        same n k h = (let z : n ≡ n + 0 = omega arith in z) ∙ ap (λ b. n + cond b 0 k) (sym h)
    by false e =
        record {
          among = λ other. among_more named t other ∙ ap (λ b. b || (t.0 == other.0)) (has.among other) ∙ sym (among_more all t other);
          once = λ p.
              sum_by_push (λ (x : TraceId). cond (p x) 1 0) named t ∙ ap (λ n. n + cond (p t) 1 0) (has.once p)
              ∙ ap (λ b. count_by p (each_once all) + cond b 0 (cond (p t) 1 0)) (sym (sym (has.among t) ∙ e)) ∙ sym (once_more p all t);
        }

named_step : (room : ℕ) (ring : SamplerRing) (t : TraceId) → (rings.names t ring).named ≡ cond (is_among ring.named t) ring.named (ring.named ++ t ∷ [])
named_step room ring t = by (is_among ring.named t)
  where
    by : (b : Bool)
        → (cond b ring (record { waiting = filter (λ c. not (is_of t c)) ring.waiting; named = ring.named ++ t ∷ []; kept = ring.kept ++ filter (is_of t) ring.waiting })).named
        ≡ cond b ring.named (ring.named ++ t ∷ [])
    by true = refl
    by false = refl

comes_step : (room : ℕ) (ring : SamplerRing) (c : Coming) → (rings.comes room c ring).named ≡ ring.named
comes_step room ring c = by (is_among ring.named c.trace)
  where
    by : (b : Bool) → (cond b (record ring { kept = ring.kept ++ c ∷ [] }) (record ring { waiting = last_ones room (ring.waiting ++ c ∷ []) })).named ≡ ring.named
    by true = refl
    by false = refl

-- where f gives what an event names
pub names_are_named : (f : samplers.SamplerEvent → List TraceId) → ((c : Coming) → f (samplers.Comes c) ≡ []) → ((t : TraceId) → f (samplers.Names t) ≡ t ∷ [])
    → (room : ℕ) (events : List samplers.SamplerEvent) (ring : SamplerRing) (all : List TraceId) → HasNames all ring.named → HasNames (all ++ flat_map f events) (fold (ring_step room) ring events).named
names_are_named f quiet tells room [] ring all has = subst (λ (ts : List TraceId). HasNames ts ring.named) (sym (append-nil all)) has
names_are_named f quiet tells room (samplers.Comes c ∷ events) ring all has =
    subst (λ (ts : List TraceId). HasNames (all ++ (ts ++ flat_map f events)) (fold (ring_step room) (rings.comes room c ring) events).named) (sym (quiet c))
    (names_are_named f quiet tells room events (rings.comes room c ring) all (subst (HasNames all) (sym (comes_step room ring c)) has))
names_are_named f quiet tells room (samplers.Names t ∷ events) ring all has =
    subst (λ (ts : List TraceId). HasNames (all ++ (ts ++ flat_map f events)) (fold (ring_step room) (rings.names t ring) events).named) (sym (tells t))
    (subst (λ (ts : List TraceId). HasNames ts (fold (ring_step room) (rings.names t ring) events).named) (append_assoc all (t ∷ []) (flat_map f events))
    (names_are_named f quiet tells room events (rings.names t ring) (all ++ t ∷ []) (subst (HasNames (all ++ t ∷ [])) (sym (named_step room ring t)) (names_more all ring.named t has))))
