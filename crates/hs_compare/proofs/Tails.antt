-- What a ring tail is after a step.
use Rattle.std.proofs.Common.{◌≡◌, ℕ, ◌+◌, ◌-◌, ◌≤◌, cond, ◌==◌, ◌||◌, Bool, true, false, List, [], ◌∷◌, ◌++◌, length, drop, filter, map, refl, sym, ap, ◌∙◌, arith}
use Rattle.hs_compare.proofs.Prelude.{not, length_push, list_any-append, length_map, TraceId, RecordId, TracedRecord, Ringing, is_noted_of, alive, ids_in, traces_in, last_noted, comes, names, queued, ids_of, AreQueued}
use Rattle.std.proofs.lemmas.List.{drop-append-le}
use Rattle.std.proofs.lemmas.List.Filters.{length-filter_both}
use Rattle.hs_compare.specs.Ringing.{is_among}
use Rattle.hs_compare.proofs.Queued.{Entries, is_key, same_ids}

abbrev pub ringing : ℕ → List TracedRecord → List TraceId → List RecordId → List TraceId → Ringing
ringing room waiting named kept traces = record { room = room; waiting = waiting; named = named; kept = kept; traces = traces }

pub comes_named : (ring : Ringing) (noted : TracedRecord) (kept : List RecordId) (traces : List TraceId) → is_among ring.named noted.trace ≡ true → kept ≡ ring.kept ++ noted.id ∷ [] → traces ≡ ring.traces ++ noted.trace ∷ []
    → ringing ring.room ring.waiting ring.named kept traces ≡ comes noted ring
comes_named ring noted kept traces among is are =
    ap (λ ks. ringing ring.room ring.waiting ring.named ks traces) is ∙ ap (ringing ring.room ring.waiting ring.named (ring.kept ++ noted.id ∷ [])) are
    ∙ ap (λ b. cond b (ringing ring.room ring.waiting ring.named (ring.kept ++ noted.id ∷ []) (ring.traces ++ noted.trace ∷ [])) (record ring { waiting = last_noted ring.room (ring.waiting ++ noted ∷ []) })) (sym among)

pub last_more : (room : ℕ) (waiting : List TracedRecord) (noted : TracedRecord) → 1 ≤ room → drop (length waiting + 1 - room) waiting ++ noted ∷ [] ≡ last_noted room (waiting ++ noted ∷ [])
last_more room waiting noted some =
    let few : length waiting + 1 - room ≤ length waiting = omega arith in
    let long : length waiting + 1 - room ≡ length (waiting ++ noted ∷ []) - room = omega (arith, length_push waiting noted) in
    sym (drop-append-le (length waiting + 1 - room) waiting (noted ∷ []) few) ∙ ap (λ n. drop n (waiting ++ noted ∷ [])) long

pub comes_unnamed : (ring : Ringing) (noted : TracedRecord) (waiting : List TracedRecord) → is_among ring.named noted.trace ≡ false → 1 ≤ ring.room → waiting ≡ drop (length ring.waiting + 1 - ring.room) ring.waiting ++ noted ∷ []
    → ringing ring.room waiting ring.named ring.kept ring.traces ≡ comes noted ring
comes_unnamed ring noted waiting among some is =
    ap (λ ws. ringing ring.room ws ring.named ring.kept ring.traces) (is ∙ last_more ring.room ring.waiting noted some)
    ∙ ap (λ b. cond b (record ring { kept = ring.kept ++ noted.id ∷ []; traces = ring.traces ++ noted.trace ∷ [] }) (ringing ring.room (last_noted ring.room (ring.waiting ++ noted ∷ [])) ring.named ring.kept ring.traces)) (sym among)

pub names_again : (ring : Ringing) (trace : TraceId) → is_among ring.named trace ≡ true → ring ≡ names trace ring
names_again ring trace among =
    ap (λ b. cond b ring (ringing ring.room (filter (λ n. not (is_noted_of trace n)) ring.waiting) (ring.named ++ trace ∷ []) (ring.kept ++ ids_in (filter (is_noted_of trace) ring.waiting)) (ring.traces ++ traces_in (filter (is_noted_of trace) ring.waiting)))) (sym among)

-- the waiting records once a trace more is named
pub waits_less : (named : List TraceId) (trace : TraceId) (records : List TracedRecord) → alive (named ++ trace ∷ []) records ≡ filter (λ n. not (is_noted_of trace n)) (alive named records)
waits_less named trace [] = refl
waits_less named trace (r ∷ records) =
    ap (λ b. cond (not b) (r ∷ alive (named ++ trace ∷ []) records) (alive (named ++ trace ∷ []) records)) (list_any-append (λ (other : TraceId). other.0 == r.trace.0) named (trace ∷ []) ∙ flip (is_among named r.trace) trace.0 r.trace.0)
    ∙ ap (λ rest. cond (not (is_among named r.trace || is_noted_of trace r)) (r ∷ rest) rest) (waits_less named trace records)
    ∙ by (is_among named r.trace) (is_noted_of trace r) refl (alive named records)
  where
    flip : (b : Bool) (x y : ℕ) → (b || ((x == y) || false)) ≡ (b || (y == x))
    flip b x y = grind arith

    by : (a o : Bool) → is_noted_of trace r ≡ o → (rest : List TracedRecord)
        → cond (not (a || o)) (r ∷ filter (λ n. not (is_noted_of trace n)) rest) (filter (λ n. not (is_noted_of trace n)) rest) ≡ filter (λ n. not (is_noted_of trace n)) (cond (not a) (r ∷ rest) rest)
    by true o e rest = refl
    by false true e rest = sym (ap (λ c. cond (not c) (r ∷ filter (λ n. not (is_noted_of trace n)) rest) (filter (λ n. not (is_noted_of trace n)) rest)) e)
    by false false e rest = sym (ap (λ c. cond (not c) (r ∷ filter (λ n. not (is_noted_of trace n)) rest) (filter (λ n. not (is_noted_of trace n)) rest)) e)

-- the records of one trace are all of that trace
pub traces_own : (trace : TraceId) (records : List TracedRecord) → map (λ _. trace) (ids_of trace records) ≡ traces_in (filter (is_noted_of trace) records)
traces_own trace [] = refl
traces_own trace (r ∷ records) = by (is_noted_of trace r) refl (traces_own trace records)
  where
    by : (b : Bool) → is_noted_of trace r ≡ b → map (λ _. trace) (ids_of trace records) ≡ traces_in (filter (is_noted_of trace) records)
        → map (λ _. trace) (ids_in (cond b (r ∷ filter (is_noted_of trace) records) (filter (is_noted_of trace) records))) ≡ traces_in (cond b (r ∷ filter (is_noted_of trace) records) (filter (is_noted_of trace) records))
    by true e rest = ap (λ t. t ∷ map (λ _. trace) (ids_of trace records)) (sym (same_ids r.trace trace e)) ∙ ap (λ ts. r.trace ∷ ts) rest
    by false e rest = rest

pub names_first : (room : ℕ) (ring : List TracedRecord) (named : List TraceId) (kept : List RecordId) (traces : List TraceId) (trace : TraceId) (kept' : List RecordId) (traces' : List TraceId) → is_among named trace ≡ false
    → kept' ≡ kept ++ ids_of trace (alive named ring) → traces' ≡ traces ++ map (λ _. trace) (ids_of trace (alive named ring))
    → ringing room (alive (named ++ trace ∷ []) ring) (named ++ trace ∷ []) kept' traces' ≡ names trace (ringing room (alive named ring) named kept traces)
names_first room ring named kept traces trace kept' traces' among is are =
    let waiting = alive named ring in
    let own = filter (is_noted_of trace) waiting in
    ap (λ ws. ringing room ws (named ++ trace ∷ []) kept' traces') (waits_less named trace ring)
    ∙ ap (λ ks. ringing room (filter (λ n. not (is_noted_of trace n)) waiting) (named ++ trace ∷ []) ks traces') is
    ∙ ap (ringing room (filter (λ n. not (is_noted_of trace n)) waiting) (named ++ trace ∷ []) (kept ++ ids_of trace waiting)) (are ∙ ap (λ ts. traces ++ ts) (traces_own trace waiting))
    ∙ ap (λ b. cond b (ringing room waiting named kept traces) (ringing room (filter (λ n. not (is_noted_of trace n)) waiting) (named ++ trace ∷ []) (kept ++ ids_in own) (traces ++ traces_in own))) (sym among)

-- ---- what is left of the queues

none_own : (trace : TraceId) (records : List TracedRecord) → ids_of trace (filter (λ n. not (is_noted_of trace n)) records) ≡ []
none_own trace [] = refl
none_own trace (r ∷ records) = by (is_noted_of trace r) refl (none_own trace records)
  where
    by : (b : Bool) → is_noted_of trace r ≡ b → ids_of trace (filter (λ n. not (is_noted_of trace n)) records) ≡ []
        → ids_of trace (cond (not b) (r ∷ filter (λ n. not (is_noted_of trace n)) records) (filter (λ n. not (is_noted_of trace n)) records)) ≡ []
    by true e rest = rest
    by false e rest = ap (λ c. ids_in (cond c (r ∷ filter (is_noted_of trace) (filter (λ n. not (is_noted_of trace n)) records)) (filter (is_noted_of trace) (filter (λ n. not (is_noted_of trace n)) records)))) e ∙ rest

other_own : (trace t : TraceId) (records : List TracedRecord) → is_key trace t ≡ false → ids_of t (filter (λ n. not (is_noted_of trace n)) records) ≡ ids_of t records
other_own trace t [] apart = refl
other_own trace t (r ∷ records) apart = by (is_noted_of trace r) (is_noted_of t r) refl refl (other_own trace t records apart)
  where
    never : is_noted_of trace r ≡ true → is_noted_of t r ≡ true → ⊥
    never a b = grind (arith, apart)

    by : (a b : Bool) → is_noted_of trace r ≡ a → is_noted_of t r ≡ b → ids_of t (filter (λ n. not (is_noted_of trace n)) records) ≡ ids_of t records
        → ids_of t (cond (not a) (r ∷ filter (λ n. not (is_noted_of trace n)) records) (filter (λ n. not (is_noted_of trace n)) records)) ≡ ids_in (cond b (r ∷ filter (is_noted_of t) records) (filter (is_noted_of t) records))
    by true true e f rest = absurd (never e f)
    by true false e f rest = rest
    by false true e f rest =
        ap (λ c. ids_in (cond c (r ∷ filter (is_noted_of t) (filter (λ n. not (is_noted_of trace n)) records)) (filter (is_noted_of t) (filter (λ n. not (is_noted_of trace n)) records)))) f ∙ ap (λ ids. r.id ∷ ids) rest
    by false false e f rest =
        ap (λ c. ids_in (cond c (r ∷ filter (is_noted_of t) (filter (λ n. not (is_noted_of trace n)) records)) (filter (is_noted_of t) (filter (λ n. not (is_noted_of trace n)) records)))) f ∙ rest

pub queued_left : (old new : Entries) (named : List TraceId) (trace : TraceId) (ring : List TracedRecord) → AreQueued old (alive named ring) → ((t : TraceId) → queued new t ≡ cond (is_key trace t) [] (queued old t))
    → AreQueued new (alive (named ++ trace ∷ []) ring)
queued_left old new named trace ring are rest t = rest t ∙ by (is_key trace t) refl ∙ ap (ids_of t) (sym (waits_less named trace ring))
  where
    by : (b : Bool) → is_key trace t ≡ b → cond b [] (queued old t) ≡ ids_of t (filter (λ n. not (is_noted_of trace n)) (alive named ring))
    by true e = sym (none_own trace (alive named ring)) ∙ ap (λ s. ids_of s (filter (λ n. not (is_noted_of trace n)) (alive named ring))) (same_ids trace t e)
    by false e = are t ∙ sym (other_own trace t (alive named ring) e)

-- how many wait still, once the queue of a trace is taken out
pub count_left : (named : List TraceId) (trace : TraceId) (ring : List TracedRecord) (old : Entries) → AreQueued old (alive named ring)
    → length (alive (named ++ trace ∷ []) ring) + length (queued old trace) ≡ length (alive named ring)
count_left named trace ring old are =
    let whole = length-filter_both (is_noted_of trace) (λ n. not (is_noted_of trace n)) (λ n. refl) (alive named ring) in
    let own : length (queued old trace) ≡ length (filter (is_noted_of trace) (alive named ring)) = ap length (are trace) ∙ length_map (λ (n : TracedRecord). n.id) (filter (is_noted_of trace) (alive named ring)) in
    let left = ap length (waits_less named trace ring) in
    omega (arith, whole, own, left)
