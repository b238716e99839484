-- The queues after one of them changed.
use Rattle.std.proofs.Common.{◌≡◌, cond, ◌==◌, Bool, true, false, List, [], ◌∷◌, ◌++◌, drop, map, filter, Option, Some, refl, sym, ap, ◌∙◌}
use Rattle.hs_compare.proofs.Prelude.{unwrap_or, lookup, eqb-true, map-append, filter-append, TraceId, RecordId, TracedRecord, is_noted_of, queued, ids_of, AreQueued}
use Rattle.hs_compare.proofs.Firsts.{cond_both}

abbrev pub Entries : Type 0
Entries = List (TraceId × List RecordId)

abbrev pub is_key : TraceId → TraceId → Bool
is_key trace other = trace.0 == other.0

-- what the trace has is w, and each other has what it had
abbrev pub AreUpdated : Entries → Entries → TraceId → Option (List RecordId) → Type 0
AreUpdated old new trace w = (q : TraceId) → lookup (is_key q) new ≡ cond (is_key trace q) w (lookup (is_key q) old)

pub same_ids : (a b : TraceId) → is_key a b ≡ true → a ≡ b
same_ids a b h = ap (λ n. record { 0 = n }) (eqb-true a.0 b.0 h)

-- the queue of one trace changes by f
pub changed : (f : List RecordId → List RecordId) (old new : Entries) (trace : TraceId) (w : Option (List RecordId)) → AreUpdated old new trace w → unwrap_or w [] ≡ f (queued old trace)
    → (t : TraceId) → queued new t ≡ cond (is_key trace t) (f (queued old t)) (queued old t)
changed f old new trace w updated is t = ap (λ o. unwrap_or o []) (updated t) ∙ by (is_key trace t) refl
  where
    by : (b : Bool) → is_key trace t ≡ b → unwrap_or (cond b w (lookup (is_key t) old)) [] ≡ cond b (f (queued old t)) (queued old t)
    by true e = is ∙ ap (λ s. f (queued old s)) (same_ids trace t e)
    by false e = refl

-- the same list again
pub unchanged : (old new : Entries) (trace : TraceId) (queue : List RecordId) → AreUpdated old new trace (Some queue) → lookup (is_key trace) old ≡ Some queue
    → (t : TraceId) → queued new t ≡ queued old t
unchanged old new trace queue updated is t =
    changed (λ q. q) old new trace (Some queue) updated (sym (ap (λ o. unwrap_or o []) is)) t ∙ cond_both (is_key trace t) (queued old t)

pub same_entries : (old new : Entries) → new ≡ old → (t : TraceId) → queued new t ≡ queued old t
same_entries old new same t = ap (λ es. queued es t) same

-- ---- with the records

pub ids-append : (trace : TraceId) (xs ys : List TracedRecord) → ids_of trace (xs ++ ys) ≡ ids_of trace xs ++ ids_of trace ys
ids-append trace xs ys = ap (map (λ (n : TracedRecord). n.id)) (filter-append (is_noted_of trace) xs ys) ∙ map-append (λ (n : TracedRecord). n.id) (filter (is_noted_of trace) xs) (filter (is_noted_of trace) ys)

-- a record more
pub queued-more : (old new : Entries) (records : List TracedRecord) (noted : TracedRecord) → AreQueued old records
    → ((t : TraceId) → queued new t ≡ cond (is_key noted.trace t) (queued old t ++ noted.id ∷ []) (queued old t)) → AreQueued new (records ++ noted ∷ [])
queued-more old new records noted are more t =
    more t ∙ ap (λ q. cond (is_key noted.trace t) (q ++ noted.id ∷ []) q) (are t) ∙ by (is_key noted.trace t) refl ∙ sym (ids-append t records (noted ∷ []))
  where
    by : (b : Bool) → is_key noted.trace t ≡ b → cond b (ids_of t records ++ noted.id ∷ []) (ids_of t records) ≡ ids_of t records ++ ids_of t (noted ∷ [])
    by true e = ap (λ c. ids_of t records ++ map (λ (n : TracedRecord). n.id) (cond c (noted ∷ []) [])) (sym e)
    by false e = sym (ap (λ c. ids_of t records ++ map (λ (n : TracedRecord). n.id) (cond c (noted ∷ []) [])) e ∙ append-none (ids_of t records))
      where
        append-none : (xs : List RecordId) → xs ++ [] ≡ xs
        append-none [] = refl
        append-none (x ∷ xs) = ap (λ r. x ∷ r) (append-none xs)

-- the first record goes
pub queued-less : (old new : Entries) (noted : TracedRecord) (records : List TracedRecord) → AreQueued old (noted ∷ records)
    → ((t : TraceId) → queued new t ≡ cond (is_key noted.trace t) (drop 1 (queued old t)) (queued old t)) → AreQueued new records
queued-less old new noted records are less t = less t ∙ ap (λ q. cond (is_key noted.trace t) (drop 1 q) q) (are t) ∙ by (is_key noted.trace t)
  where
    by : (b : Bool) → let ids = map (λ (n : TracedRecord). n.id) (cond b (noted ∷ filter (is_noted_of t) records) (filter (is_noted_of t) records)) in cond b (drop 1 ids) ids ≡ ids_of t records
    by true = refl
    by false = refl
