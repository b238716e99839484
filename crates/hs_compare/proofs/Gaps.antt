-- Claimed traces rise, so no entry is in two gap lines, and the gaps of all claimed traces are counted by one test. A claimed trace without
-- a record has no report, and no gap either.
use Rattle.std.proofs.Common.{◌≡◌, ◌⊎◌, inl, inr, ℕ, ◌+◌, ◌<◌, ◌≤◌, Bool, true, false, not, ◌&&◌, ◌||◌, cond, List, [], ◌∷◌, length, refl, sym, ap, arith, map, filter, count_by, sum_by, eqb, eqb-true, ltb, ltb-true, ltb-false, eq-or-lt_of_le}
use Rattle.hs_compare.proofs.Prelude.{AllByRecursion, flat_map, list_any, eqb-false, sum_by-cons, one_if, length_cons_if, all_each, TraceId, is_among, Entry, is_reported, PlainWorkload, followed, put_trace, rising_traces, claimed_at, outcome_of, is_gap}
use Rattle.hs_law_outcome.specs.Reports.{Report, is_of, report_of}
use Rattle.hs_compare.specs.SamplerLaws.{GapsAreInGapLines}
use Rattle.hs_compare.proofs.Claimed.{put_all}

-- ---- rising traces

abbrev IsAbove : ℕ → TraceId → Type 0
IsAbove n trace = n < trace.0

abbrev Rise : List TraceId → Type 0
Rise [] = Unit {0}
Rise (trace ∷ traces) = AllByRecursion (IsAbove trace.0) traces × Rise traces

module _ (trace : TraceId) where
  put_same : (other : TraceId) (traces : List TraceId) (b : Bool) → eqb trace.0 other.0 ≡ b → (other.0 < trace.0 → Rise (other ∷ put_trace trace traces)) → ((other.0 ≡ trace.0) ⊎ (other.0 < trace.0)) → Rise (other ∷ traces)
      → Rise (cond b (other ∷ traces) (other ∷ put_trace trace traces))
  put_same other traces true e more place h = h
  put_same other traces false e more (inr less) h = more less
  put_same other traces false e more (inl same) h = absurd (eqb-false trace.0 other.0 e (sym same))

  put_before : (other : TraceId) (traces after : List TraceId) (b : Bool) → ltb trace.0 other.0 ≡ b → (other.0 ≤ trace.0 → Rise after) → Rise (other ∷ traces) → Rise (cond b (trace ∷ other ∷ traces) after)
  put_before other traces after true e later h =
      let less = ltb-true trace.0 other.0 e in
      ((less, all_each (IsAbove other.0) (IsAbove trace.0) traces (λ x more. omega (arith, less, more)) h.0), h)
  put_before other traces after false e later h = later (ltb-false trace.0 other.0 e)

  put_rises : (traces : List TraceId) → Rise traces → Rise (put_trace trace traces)
  put_rises [] h = (tt, tt)
  put_rises (other ∷ traces) h =
      let rest = put_rises traces h.1 in
      put_before other traces (cond (eqb trace.0 other.0) (other ∷ traces) (other ∷ put_trace trace traces)) (ltb trace.0 other.0) refl
      (λ low. put_same other traces (eqb trace.0 other.0) refl (λ less. (put_all trace (IsAbove other.0) traces less h.0, rest)) (eq-or-lt_of_le low) h) h

rising_rise : (traces : List TraceId) → Rise (rising_traces traces)
rising_rise [] = tt
rising_rise (trace ∷ traces) = put_rises trace (rising_traces traces) (rising_rise traces)

-- a trace is not among those above it
not_above : (n : ℕ) (traces : List TraceId) (trace : TraceId) → AllByRecursion (IsAbove n) traces → trace.0 ≡ n → is_among traces trace ≡ false
not_above n [] trace above same = refl
not_above n (first ∷ traces) trace above same = either (eqb first.0 trace.0) refl (not_above n traces trace above.1 same)
  where
    either : (b : Bool) → eqb first.0 trace.0 ≡ b → is_among traces trace ≡ false → (b || is_among traces trace) ≡ false
    either true e rest = let equal = eqb-true first.0 trace.0 e in let more = above.0 in absurd (omega (arith, equal, more, same))
    either false e rest = rest

-- ---- counts

apart : (a b r : Bool) → (a ≡ true → b ≡ false) → one_if ((a || b) && r) ≡ one_if (a && r) + one_if (b && r)
apart true true r never = let no : true ≡ false = never refl in absurd cc
apart true false true never = refl
apart true false false never = refl
apart false true true never = refl
apart false true false never = refl
apart false false r never = refl

turned : (a b : ℕ) → eqb a b ≡ eqb b a
turned a b = either (eqb a b) refl (eqb b a) refl
  where
    either : (p : Bool) → eqb a b ≡ p → (q : Bool) → eqb b a ≡ q → p ≡ q
    either true e true f = refl
    either true e false f = absurd (eqb-false b a f (sym (eqb-true a b e)))
    either false e true f = absurd (eqb-false a b e (sym (eqb-true b a f)))
    either false e false f = refl

abbrev gap_of : TraceId → Entry → Bool
gap_of trace entry = is_of trace entry && not (is_reported entry.fate)

-- how many gaps the report of a trace has
abbrev gaps_of : List Entry → TraceId → ℕ
gaps_of entries trace = length (filter (gap_of trace) entries)

split : (trace : TraceId) (traces : List TraceId) (entries : List Entry) → AllByRecursion (IsAbove trace.0) traces → count_by (is_gap (trace ∷ traces)) entries ≡ gaps_of entries trace + count_by (is_gap traces) entries
split trace traces [] above = refl
split trace traces (entry ∷ entries) above =
    let n = entry.trace.0 in
    let mine = sum_by-cons (λ (e : Entry). one_if (is_gap (trace ∷ traces) e)) entry entries in
    let others = sum_by-cons (λ (e : Entry). one_if (is_gap traces e)) entry entries in
    let here = apart (eqb trace.0 n) (is_among traces entry.trace) (not (is_reported entry.fate)) (λ e. not_above trace.0 traces entry.trace above (sym (eqb-true trace.0 n e))) in
    let same : one_if (gap_of trace entry) ≡ one_if (eqb trace.0 n && not (is_reported entry.fate)) = ap (λ (b : Bool). one_if (b && not (is_reported entry.fate))) (turned n trace.0) in
    let kept = length_cons_if entry (filter (gap_of trace) entries) (gap_of trace entry) in
    let rest = split trace traces entries above in
    omega (arith, mine, others, here, same, kept, rest)

none_counted : (entries : List Entry) → count_by (is_gap []) entries ≡ 0
none_counted [] = refl
none_counted (entry ∷ entries) = let first = sum_by-cons (λ (e : Entry). one_if (is_gap [] e)) entry entries in let rest = none_counted entries in omega (arith, first, rest)

-- a trace without a record has no gap
no_gap : (trace : TraceId) (entries : List Entry) → list_any (is_of trace) entries ≡ false → gaps_of entries trace ≡ 0
no_gap trace [] none = refl
no_gap trace (entry ∷ entries) none = either (is_of trace entry) none (no_gap trace entries)
  where
    either : (b : Bool) → (b || list_any (is_of trace) entries) ≡ false → (list_any (is_of trace) entries ≡ false → gaps_of entries trace ≡ 0)
        → length (cond (b && not (is_reported entry.fate)) (entry ∷ filter (gap_of trace) entries) (filter (gap_of trace) entries)) ≡ 0
    either true none rest = let no : true ≡ false = none in absurd cc
    either false none rest = rest none

module _ (W : PlainWorkload) (entries : List Entry) where
  abbrev reports : List TraceId → List Report
  reports traces = map (report_of W entries) (filter (λ trace. list_any (is_of trace) entries) traces)

  abbrev lines_in : List Report → ℕ
  lines_in list = sum_by (λ (report : Report). length report.gaps) list

  line_case : (trace : TraceId) (traces : List TraceId) (b : Bool) → list_any (is_of trace) entries ≡ b
      → lines_in (map (report_of W entries) (cond b (trace ∷ filter (λ trace. list_any (is_of trace) entries) traces) (filter (λ trace. list_any (is_of trace) entries) traces))) ≡ gaps_of entries trace + lines_in (reports traces)
  line_case trace traces true e = sum_by-cons (λ (report : Report). length report.gaps) (report_of W entries trace) (reports traces)
  line_case trace traces false e = let none = no_gap trace entries e in omega (arith, none)

  all_counted : (traces : List TraceId) → Rise traces → count_by (is_gap traces) entries ≡ lines_in (reports traces)
  all_counted [] rise = none_counted entries
  all_counted (trace ∷ traces) rise =
      let first = split trace traces entries rise.0 in
      let line = line_case trace traces (list_any (is_of trace) entries) refl in
      let rest = all_counted traces rise.1 in
      omega (arith, first, line, rest)

pub gaps_are_in_gap_lines : GapsAreInGapLines
gaps_are_in_gap_lines W J one_in room = all_counted W (outcome_of W J).entries (outcome_of W J).claimed (rising_rise (flat_map claimed_at (followed W J).nodes))
