-- The records of named traces. A named trace has all its records among them, so it has its count where these alone are counted.
use Rattle.std.proofs.Common.{◌≡◌, ◌==◌, ◌||◌, cond, Bool, true, false, List, [], ◌∷◌, filter, refl, sym, ap, ◌∙◌, eqb-true}
use Rattle.hs_compare.proofs.Prelude.{AllByRecursion, all_each, IsIn, TraceId, Entry, Coming, AreCounted, is_counted, is_same, times, times_in, marked, marks_of_named, traces_of}
use Rattle.hs_base.proofs.Alls.{all_always, all_filter}
use Rattle.hs_compare.specs.Counting.{HasCountsOf}
use Rattle.hs_compare.specs.Ringing.{is_among}
use Rattle.hs_compare.proofs.Claiming.{traces_in, each_among}
use Rattle.hs_compare.proofs.Counted.{Counts, count_filtered, counted_is, none_counted, times_are}
use Rattle.hs_compare.proofs.Lists.{all_themselves}
use Rattle.hs_compare.proofs.Naming.{Among, among_all, among_in, among_same}

module _ (named : List TraceId) where
  -- the traces of the records of named traces
  abbrev pub kept : List Coming → List TraceId
  kept all = traces_of (marked (marks_of_named named all) all)

  kept_is : (all : List Coming) → kept all ≡ filter (is_among named) (traces_of all)
  kept_is [] = refl
  kept_is (c ∷ cs) = by (is_among named c.trace) (kept_is cs)
    where
      by : (b : Bool) → kept cs ≡ filter (is_among named) (traces_of cs)
          → traces_of (cond b (c ∷ marked (marks_of_named named cs) cs) (marked (marks_of_named named cs) cs)) ≡ cond b (c.trace ∷ filter (is_among named) (traces_of cs)) (filter (is_among named) (traces_of cs))
      by true ih = ap (λ ts. c.trace ∷ ts) ih
      by false ih = ih

  -- one that is not named is no named one
  apart : (t x : TraceId) → Among named t → is_among named x ≡ false → (x.0 == t.0) ≡ false
  apart t x h none = by (x.0 == t.0) refl
    where
      by : (b : Bool) → (x.0 == t.0) ≡ b → b ≡ false
      by true e = let no : false ≡ true = sym none ∙ among_same named t x (sym (eqb-true x.0 t.0 e)) h in absurd cc
      by false e = refl

  times_kept : (all : List Coming) (t : TraceId) → Among named t → times (kept all) t ≡ times (traces_of all) t
  times_kept all t h =
      ap (λ ts. times ts t) (kept_is all)
      ∙ count_filtered (is_same t) (is_among named) (traces_of all) (all_always (λ (x : TraceId). is_among named x ≡ false → is_same t x ≡ false) (traces_of all) (λ x. apart t x h))

  among_filter : (traces : List TraceId) (t : TraceId) → Among named t → is_among (filter (is_among named) traces) t ≡ is_among traces t
  among_filter [] t h = refl
  among_filter (x ∷ traces) t h = by (is_among named x) refl (among_filter traces t h)
    where
      by : (b : Bool) → is_among named x ≡ b → is_among (filter (is_among named) traces) t ≡ is_among traces t
          → is_among (cond b (x ∷ filter (is_among named) traces) (filter (is_among named) traces)) t ≡ ((x.0 == t.0) || is_among traces t)
      by true e ih = ap (λ b. (x.0 == t.0) || b) ih
      by false e ih = ih ∙ ap (λ b. b || is_among traces t) (sym (apart t x h e))

  among_kept : (all : List Coming) (t : TraceId) → Among named t → is_among (kept all) t ≡ is_among (traces_of all) t
  among_kept all t h = ap (λ ts. is_among ts t) (kept_is all) ∙ among_filter (traces_of all) t h

  among_themselves : AllByRecursion (Among named) named
  among_themselves = all_each (IsIn named) (Among named) named (among_in named) (all_themselves named)

  -- ---- where the traces of these records are counted

  module _ (all : List Coming) (counts : Counts) (are : AreCounted (kept all) counts) where
    pub known_counts : HasCountsOf (filter (is_counted counts) named) (traces_of all) counts
    known_counts =
        all_filter (λ (t : TraceId). times_in counts t ≡ times (traces_of all) t) (is_counted counts) named
        (all_each (Among named) (λ (t : TraceId). times_in counts t ≡ times (traces_of all) t) named (λ t h. times_are (kept all) counts are t ∙ times_kept all t h) among_themselves)

    pub others_have_none : AllByRecursion (λ (t : TraceId). is_counted counts t ≡ false → times (traces_of all) t ≡ 0) named
    others_have_none =
        all_each (Among named) (λ (t : TraceId). is_counted counts t ≡ false → times (traces_of all) t ≡ 0) named
        (λ t h none. sym (times_kept all t h) ∙ none_counted (kept all) t (sym (counted_is (kept all) counts are t) ∙ none)) among_themselves

    -- the trace of a record was counted, where it was claimed and the claimed ones are named
    pub claimed_counted : (entries : List Entry) (claimed : List TraceId) → traces_in entries ≡ traces_of all → AllByRecursion (Among named) claimed
        → AllByRecursion (λ (e : Entry). is_among claimed e.trace ≡ true → is_counted counts e.trace ≡ true) entries
    claimed_counted entries claimed beside all_named =
        all_each (λ (e : Entry). is_among (traces_in entries) e.trace ≡ true) (λ (e : Entry). is_among claimed e.trace ≡ true → is_counted counts e.trace ≡ true) entries
        (λ e there claim.
        counted_is (kept all) counts are e.trace ∙ among_kept all e.trace (among_all named claimed e.trace all_named claim)
        ∙ ap (λ ts. is_among ts e.trace) (sym beside) ∙ there) (each_among entries)
