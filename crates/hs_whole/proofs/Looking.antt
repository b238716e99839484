-- What is found of a trace after a change of the traces that are kept.
use Rattle.std.proofs.Common.{◌≡◌, ◌⊎◌, inl, inr, ℕ, zero, suc, ◌-◌, ◌<◌, ◌≤◌, Bool, true, false, cond, List, [], ◌∷◌, length, take, slice_get, Option, Some, None, is_some, option_map, refl, sym, ap, arith, ◌∙◌}
use Rattle.std.specs.Option.{option_map_or}
use Rattle.std.specs.Map.{lookup, lookup_entry, set_value, remove_entry}
use Rattle.std.proofs.lemmas.Bool.{eqb-true}
use Rattle.std.proofs.lemmas.Map.{length-set_value}
use Rattle.std.proofs.lemmas.Cmp.{nat_eq_equiv}
use Rattle.std.proofs.lemmas.Option.{same_Some}
use Rattle.hs_base.proofs.Bools.{by_answer}
use Rattle.lru.specs.LruCache.{promoted, put_entries, lru_cache}
use Rattle.hs_base.specs.declared.ids.TraceId.{TraceId}
use Rattle.hs_base.specs.Ids.{same_trace}
use Rattle.hs_whole.specs.declared.kept.Kept.{Kept}
use Rattle.hs_whole.specs.Notes.{PlainNotes, with_kept, kept_of, with_new, remembered, remembered_as}

abbrev pub Traces : Type 0
Traces = List (TraceId × Kept)

abbrev pub found : TraceId → Traces → Option Kept
found trace es = lookup (same_trace trace) es

pub same-true : (a b : TraceId) → same_trace a b ≡ true → a ≡ b
same-true a b e = ap (λ (m : ℕ). record { 0 = m }) (eqb-true a.0 b.0 e)

pub same-refl : (a : TraceId) → same_trace a a ≡ true
same-refl a = nat_eq_equiv.refl a.0

-- ---- a value is set, or an entry goes

pub found-set_other : (trace other : TraceId) → same_trace trace other ≡ false → (es : Traces) (w : Kept) → found trace (set_value (same_trace other) es w) ≡ found trace es
found-set_other trace other apart [] w = refl
found-set_other trace other apart (e ∷ es) w =
    by_answer (same_trace other e.0)
    (λ y. let n : same_trace trace e.0 ≡ false = ap (λ (x : TraceId). same_trace trace x) (sym (same-true other e.0 y)) ∙ apart in
    ap (λ b. found trace (cond b ((e.0, w) ∷ es) (e ∷ set_value (same_trace other) es w))) y
    ∙ ap (λ b. cond b (Some w) (found trace es)) n
    ∙ sym (ap (λ b. cond b (Some e.1) (found trace es)) n))
    (λ n. ap (λ b. found trace (cond b ((e.0, w) ∷ es) (e ∷ set_value (same_trace other) es w))) n
    ∙ ap (λ o. cond (same_trace trace e.0) (Some e.1) o) (found-set_other trace other apart es w))

pub found-set_same : (trace : TraceId) (es : Traces) (old w : Kept) → found trace es ≡ Some old → found trace (set_value (same_trace trace) es w) ≡ Some w
found-set_same trace [] old w is = let never : None ≡ Some old = is in absurd cc
found-set_same trace (e ∷ es) old w is = at (same_trace trace e.0) refl is (found-set_same trace es old w)
  where
    at : (b : Bool) → same_trace trace e.0 ≡ b → cond b (Some e.1) (found trace es) ≡ Some old → (found trace es ≡ Some old → found trace (set_value (same_trace trace) es w) ≡ Some w)
        → found trace (cond b ((e.0, w) ∷ es) (e ∷ set_value (same_trace trace) es w)) ≡ Some w
    at true y is rest = ap (λ b. cond b (Some w) (found trace es)) y
    at false n is rest = ap (λ b. cond b (Some e.1) (found trace (set_value (same_trace trace) es w))) n ∙ rest is

pub found-remove_other : (trace other : TraceId) → same_trace trace other ≡ false → (es : Traces) → found trace (remove_entry (same_trace other) es) ≡ found trace es
found-remove_other trace other apart [] = refl
found-remove_other trace other apart (e ∷ es) =
    by_answer (same_trace other e.0)
    (λ y. let n : same_trace trace e.0 ≡ false = ap (λ (x : TraceId). same_trace trace x) (sym (same-true other e.0 y)) ∙ apart in
    ap (λ b. found trace (cond b es (e ∷ remove_entry (same_trace other) es))) y
    ∙ sym (ap (λ b. cond b (Some e.1) (found trace es)) n))
    (λ n. ap (λ b. found trace (cond b es (e ∷ remove_entry (same_trace other) es))) n
    ∙ ap (λ o. cond (same_trace trace e.0) (Some e.1) o) (found-remove_other trace other apart es))

-- ---- what is kept of a trace changes

pub found-with_same : (f : Kept → Kept) (trace : TraceId) (es : Traces) → found trace (with_kept f trace es) ≡ option_map f (found trace es)
found-with_same f trace es = at (found trace es) refl
  where
    at : (o : Option Kept) → found trace es ≡ o → found trace (option_map_or (λ k. set_value (same_trace trace) es (f k)) o es) ≡ option_map f o
    at None is = is
    at (Some k) is = found-set_same trace es k (f k) is

pub found-with_other : (f : Kept → Kept) (trace other : TraceId) → same_trace trace other ≡ false → (es : Traces) → found trace (with_kept f other es) ≡ found trace es
found-with_other f trace other apart es = at (found other es)
  where
    at : (o : Option Kept) → found trace (option_map_or (λ k. set_value (same_trace other) es (f k)) o es) ≡ found trace es
    at None = refl
    at (Some k) = found-set_other trace other apart es (f k)

pub length-with : (f : Kept → Kept) (trace : TraceId) (es : Traces) → length (with_kept f trace es) ≡ length es
length-with f trace es = at (found trace es)
  where
    at : (o : Option Kept) → length (option_map_or (λ k. set_value (same_trace trace) es (f k)) o es) ≡ length es
    at None = refl
    at (Some k) = length-set_value (same_trace trace) es (f k)

-- ---- a trace becomes the latest

entry_passes : (other : TraceId) (es : Traces) (e : TraceId × Kept) → lookup_entry (same_trace other) es ≡ Some e → (other ≡ e.0) × (found other es ≡ Some e.1)
entry_passes other [] e is = let never : None ≡ Some e = is in absurd cc
entry_passes other (f ∷ es) e is = at (same_trace other f.0) refl is (entry_passes other es e)
  where
    at : (b : Bool) → same_trace other f.0 ≡ b → cond b (Some f) (lookup_entry (same_trace other) es) ≡ Some e → (lookup_entry (same_trace other) es ≡ Some e → (other ≡ e.0) × (found other es ≡ Some e.1))
        → (other ≡ e.0) × (found other (f ∷ es) ≡ Some e.1)
    at true y is rest =
        let same : f ≡ e = same_Some f e is in
        (same-true other f.0 y ∙ ap (λ (g : TraceId × Kept). g.0) same, ap (λ b. cond b (Some f.1) (found other es)) y ∙ ap (λ (g : TraceId × Kept). Some g.1) same)
    at false n is rest = let found_rest = rest is in (found_rest.0, ap (λ b. cond b (Some f.1) (found other es)) n ∙ found_rest.1)

pub found-promoted : (trace other : TraceId) (es : Traces) → found trace (promoted (same_trace other) es) ≡ found trace es
found-promoted trace other es = at (lookup_entry (same_trace other) es) refl
  where
    at : (o : Option (TraceId × Kept)) → lookup_entry (same_trace other) es ≡ o → found trace (option_map_or (λ e. e ∷ remove_entry (same_trace other) es) o es) ≡ found trace es
    at None is = refl
    at (Some e) is =
        let passes = entry_passes other es e is in
        by_answer (same_trace trace e.0)
        (λ y. ap (λ b. cond b (Some e.1) (found trace (remove_entry (same_trace other) es))) y
        ∙ sym passes.1
        ∙ ap (λ (x : TraceId). found x es) (passes.0 ∙ sym (same-true trace e.0 y)))
        (λ n. ap (λ b. cond b (Some e.1) (found trace (remove_entry (same_trace other) es))) n
        ∙ found-remove_other trace other (ap (λ (x : TraceId). same_trace trace x) passes.0 ∙ n) es)

length-removed : (other : TraceId) (es : Traces) (e : TraceId × Kept) → lookup_entry (same_trace other) es ≡ Some e → suc (length (remove_entry (same_trace other) es)) ≡ length es
length-removed other [] e is = let never : None ≡ Some e = is in absurd cc
length-removed other (f ∷ es) e is = at (same_trace other f.0) is (length-removed other es e)
  where
    at : (b : Bool) → cond b (Some f) (lookup_entry (same_trace other) es) ≡ Some e → (lookup_entry (same_trace other) es ≡ Some e → suc (length (remove_entry (same_trace other) es)) ≡ length es)
        → suc (length (cond b es (f ∷ remove_entry (same_trace other) es))) ≡ length (f ∷ es)
    at true is rest = refl
    at false is rest = ap suc (rest is)

pub length-promoted : (other : TraceId) (es : Traces) → length (promoted (same_trace other) es) ≡ length es
length-promoted other es = at (lookup_entry (same_trace other) es) refl
  where
    at : (o : Option (TraceId × Kept)) → lookup_entry (same_trace other) es ≡ o → length (option_map_or (λ e. e ∷ remove_entry (same_trace other) es) o es) ≡ length es
    at None is = refl
    at (Some e) is = length-removed other es e is

-- ---- the last of a full list is forgotten

-- the trace was the last of the list
pub record IsLast (trace : TraceId) (es : Traces) (n : ℕ) : Type 0 where
  pub last : TraceId × Kept
  pub named : same_trace trace last.0 ≡ true
  pub there : slice_get es n ≡ Some last
  pub was : found trace es ≡ Some last.1
  pub gone : found trace (take n es) ≡ None

pub dropped : (trace : TraceId) (es : Traces) (n : ℕ) → length es ≤ suc n → (found trace (take n es) ≡ found trace es) ⊎ IsLast trace es n
dropped trace [] zero few = inl refl
dropped trace [] (suc n) few = inl refl
dropped trace (e ∷ []) zero few =
    by_answer (same_trace trace e.0)
    (λ y. inr (record { last = e; named = y; there = refl; was = ap (λ b. cond b (Some e.1) None) y; gone = refl }))
    (λ n. inl (sym (ap (λ b. cond b (Some e.1) None) n)))
dropped trace (e ∷ f ∷ es) zero few = absurd (omega (arith, few))
dropped trace (e ∷ es) (suc n) few =
    by_answer (same_trace trace e.0)
    (λ y. inl (ap (λ b. cond b (Some e.1) (found trace (take n es))) y ∙ sym (ap (λ b. cond b (Some e.1) (found trace es)) y)))
    (λ no. elim (dropped trace es n (omega (arith, few))) [
      | inl same ↦ inl (ap (λ o. cond (same_trace trace e.0) (Some e.1) o) same)
      | inr gone ↦ inr (record {
        last = gone.last;
        named = gone.named;
        there = gone.there;
        was = ap (λ b. cond b (Some e.1) (found trace es)) no ∙ gone.was;
        gone = ap (λ b. cond b (Some e.1) (found trace (take n es))) no ∙ gone.gone;
      })
    ])

pub length-take_few : (es : Traces) (n : ℕ) → length (take n es) ≤ n
length-take_few [] zero = omega arith
length-take_few [] (suc n) = omega arith
length-take_few (e ∷ es) zero = omega arith
length-take_few (e ∷ es) (suc n) = let rest = length-take_few es n in omega (arith, rest)

pub there_below : (es : Traces) (n : ℕ) (e : TraceId × Kept) → slice_get es n ≡ Some e → n < length es
there_below [] n e is = let never : None ≡ Some e = is in absurd cc
there_below (f ∷ es) zero e is = omega arith
there_below (f ∷ es) (suc n) e is = let rest = there_below es n e is in omega (arith, rest)

-- ---- a trace is kept

pub remembered_there : (s : PlainNotes) (trace : TraceId) (is_missed : Bool) → is_some (kept_of s trace) ≡ true
    → record { limits = s.limits; heard = s.heard; horizon = s.horizon; tracks = s.tracks; traces = promoted (same_trace trace) s.traces } ≡ remembered s trace is_missed
remembered_there s trace is_missed = at (kept_of s trace)
  where
    at : (o : Option Kept) → is_some o ≡ true → record { limits = s.limits; heard = s.heard; horizon = s.horizon; tracks = s.tracks; traces = promoted (same_trace trace) s.traces } ≡ remembered_as s trace is_missed o
    at None is = absurd cc
    at (Some k) is = refl

pub none_there : (s : PlainNotes) (trace : TraceId) → is_some (kept_of s trace) ≡ false → kept_of s trace ≡ None
none_there s trace = at (kept_of s trace)
  where
    at : (o : Option Kept) → is_some o ≡ false → o ≡ None
    at None is = refl
    at (Some k) is = absurd cc

pub remembered_new : (s : PlainNotes) (trace : TraceId) (is_missed : Bool) → kept_of s trace ≡ None → with_new s trace is_missed ≡ remembered s trace is_missed
remembered_new s trace is_missed is = ap (λ o. remembered_as s trace is_missed o) (sym is)

entry_missing : (trace : TraceId) (es : Traces) → found trace es ≡ None → lookup_entry (same_trace trace) es ≡ None
entry_missing trace [] missing = refl
entry_missing trace (e ∷ es) missing = at (same_trace trace e.0) missing (entry_missing trace es)
  where
    at : (b : Bool) → cond b (Some e.1) (found trace es) ≡ None → (found trace es ≡ None → lookup_entry (same_trace trace) es ≡ None) → cond b (Some e) (lookup_entry (same_trace trace) es) ≡ None
    at true missing rest = let never : Some e.1 ≡ None = missing in absurd cc
    at false missing rest = rest missing

pub put_newest : (trace : TraceId) (es : Traces) (cap : ℕ) (k : Kept) → found trace es ≡ None → put_entries same_trace (lru_cache es cap) trace k ≡ (trace, k) ∷ take (cap - 1) es
put_newest trace es cap k missing =
    ap (λ o. option_map_or (λ (e : TraceId × Kept). (e.0, k) ∷ remove_entry (same_trace trace) es) o ((trace, k) ∷ take (cap - 1) es)) (entry_missing trace es missing)
