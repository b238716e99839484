-- Which traces have a report: putting a trace in its place among rising ones keeps them rising, each once.
use Rattle.std.proofs.Common.{◌≡◌, ℕ, ◌<◌, ◌≤◌, Bool, true, false, ◌&&◌, ◌||◌, cond, List, [], ◌∷◌, map, filter, refl, sym, ap, ◌∙◌, arith, nat_eq, eq-eqb}
use Rattle.hs_law_outcome.proofs.Prelude.{nat_lt, AllByRecursion, list_any, flat_map, ltb-true, eqb-true, list_any-append, TraceId, same_trace, PlainJournal, Entry, ClaimedTrace, is_claimed, PlainWorkload, NodeRun, followed, outcome_of, Named, name_of, all_records, is_of, report_of, reported_traces}
use Rattle.std.proofs.lemmas.Bool.{ltb-false}
use Rattle.hs_base.proofs.Bools.{or_twice, or_swap}
use Rattle.hs_base.proofs.Tests.{list_any_map}
use Rattle.hs_law_agent.specs.Laws.{AreRising}
use Rattle.hs_law_outcome.specs.Outcomes.{put_trace, rising_traces, claimed_at}
use Rattle.hs_law_outcome.specs.Reports.{Report, reports_of}
use Rattle.hs_law_outcome.specs.Headline.{is_claimed_in, has_record}

-- ---- which traces there are

module _ (trace : TraceId) where
  abbrev among : List TraceId → Bool
  among traces = list_any (same_trace trace) traces

  put_same : (t other : TraceId) (traces : List TraceId) (b : Bool) → nat_eq t.0 other.0 ≡ b → among (put_trace t traces) ≡ (same_trace trace t || among traces)
      → among (cond b (other ∷ traces) (other ∷ put_trace t traces)) ≡ (same_trace trace t || (same_trace trace other || among traces))
  put_same t other traces true e rest =
      or_twice (same_trace trace other) (among traces) ∙ ap (λ (n : ℕ). nat_eq trace.0 n || (same_trace trace other || among traces)) (sym (eqb-true t.0 other.0 e))
  put_same t other traces false e rest = ap (λ b. same_trace trace other || b) rest ∙ or_swap (same_trace trace other) (same_trace trace t) (among traces)

  put_less : (t other : TraceId) (traces : List TraceId) (b : Bool) → among (put_trace t traces) ≡ (same_trace trace t || among traces)
      → among (cond b (t ∷ other ∷ traces) (cond (nat_eq t.0 other.0) (other ∷ traces) (other ∷ put_trace t traces))) ≡ (same_trace trace t || (same_trace trace other || among traces))
  put_less t other traces true rest = refl
  put_less t other traces false rest = put_same t other traces (nat_eq t.0 other.0) refl rest

  among_put : (t : TraceId) (traces : List TraceId) → among (put_trace t traces) ≡ (same_trace trace t || among traces)
  among_put t [] = refl
  among_put t (other ∷ traces) = put_less t other traces (nat_lt t.0 other.0) (among_put t traces)

  among_rising : (traces : List TraceId) → among (rising_traces traces) ≡ among traces
  among_rising [] = refl
  among_rising (t ∷ traces) = among_put t (rising_traces traces) ∙ ap (λ b. same_trace trace t || b) (among_rising traces)

  among_claimed : (nodes : List NodeRun) → among (flat_map claimed_at nodes) ≡ is_claimed_in nodes trace
  among_claimed [] = refl
  among_claimed (run ∷ nodes) =
      list_any-append (same_trace trace) (claimed_at run) (flat_map claimed_at nodes)
      ∙ ap (λ b. b || among (flat_map claimed_at nodes)) (list_any_map (same_trace trace) (λ (claim : ClaimedTrace). claim.trace) run.state.claims)
      ∙ ap (λ b. is_claimed run.state.claims trace || b) (among_claimed nodes)

  and_none : (a : Bool) → (a && false) ≡ false
  and_none true = refl
  and_none false = refl

  module _ (test : TraceId → Bool) where
    same_test : (t : TraceId) → same_trace trace t ≡ true → test t ≡ test trace
    same_test t e = let same : t ≡ trace = λ i. record { 0 = sym (eqb-true trace.0 t.0 e) i } in ap test same

    filter_if : (t : TraceId) (traces : List TraceId) (same passes : Bool) → same_trace trace t ≡ same → test t ≡ passes → among (filter test traces) ≡ (among traces && test trace)
        → among (cond passes (t ∷ filter test traces) (filter test traces)) ≡ ((same_trace trace t || among traces) && test trace)
    filter_if t traces true true e p rest =
        ap (λ b. b || among (filter test traces)) e ∙ sym (ap (λ b. (b || among traces) && test trace) e ∙ sym (same_test t e) ∙ p)
    filter_if t traces true false e p rest =
        let fails : test trace ≡ false = sym (same_test t e) ∙ p in
        rest ∙ ap (λ b. among traces && b) fails ∙ and_none (among traces) ∙ sym (ap (λ b. (b || among traces) && test trace) e ∙ fails)
    filter_if t traces false true e p rest = ap (λ b. b || among (filter test traces)) e ∙ rest ∙ sym (ap (λ b. (b || among traces) && test trace) e)
    filter_if t traces false false e p rest = rest ∙ sym (ap (λ b. (b || among traces) && test trace) e)

    among_filter : (traces : List TraceId) → among (filter test traces) ≡ (among traces && test trace)
    among_filter [] = refl
    among_filter (t ∷ traces) = filter_if t traces (same_trace trace t) (test t) refl refl (among_filter traces)

-- ---- that they rise

abbrev numbers : List TraceId → List ℕ
numbers traces = map (λ (t : TraceId). t.0) traces

above : (low high : ℕ) (places : List ℕ) → low ≤ high → AllByRecursion (λ (later : ℕ). high < later) places → AllByRecursion (λ (later : ℕ). low < later) places
above low high [] le all = tt
above low high (place ∷ places) le all = (omega (arith, le, all.0), above low high places le all.1)

all_put_if : (low : ℕ) (t other : TraceId) (traces : List TraceId) (less same : Bool) → low < t.0 → low < other.0 → AllByRecursion (λ (later : ℕ). low < later) (numbers traces)
    → AllByRecursion (λ (later : ℕ). low < later) (numbers (put_trace t traces))
    → AllByRecursion (λ (later : ℕ). low < later) (numbers (cond less (t ∷ other ∷ traces) (cond same (other ∷ traces) (other ∷ put_trace t traces))))
all_put_if low t other traces true same h o all put = (h, (o, all))
all_put_if low t other traces false true h o all put = (o, all)
all_put_if low t other traces false false h o all put = (o, put)

all_put : (low : ℕ) (t : TraceId) (traces : List TraceId) → low < t.0 → AllByRecursion (λ (later : ℕ). low < later) (numbers traces) → AllByRecursion (λ (later : ℕ). low < later) (numbers (put_trace t traces))
all_put low t [] h all = (h, tt)
all_put low t (other ∷ traces) h all = all_put_if low t other traces (nat_lt t.0 other.0) (nat_eq t.0 other.0) h all.0 all.1 (all_put low t traces h all.1)

not_same : (a b : ℕ) → nat_eq a b ≡ false → a ≡ b → ⊥
not_same a b differs e = let yes = eq-eqb a b e in let bad : false ≡ true = sym differs ∙ yes in absurd cc

rising_if : (t other : TraceId) (traces : List TraceId) (less same : Bool) → nat_lt t.0 other.0 ≡ less → nat_eq t.0 other.0 ≡ same → AreRising (numbers (other ∷ traces)) → AreRising (numbers (put_trace t traces))
    → AreRising (numbers (cond less (t ∷ other ∷ traces) (cond same (other ∷ traces) (other ∷ put_trace t traces))))
rising_if t other traces true same l s r put =
    let less = ltb-true t.0 other.0 l in ((less, above t.0 other.0 (numbers traces) (omega (arith, less)) r.0), r)
rising_if t other traces false true l s r put = r
rising_if t other traces false false l s r put =
    let le = ltb-false t.0 other.0 l in
    let apart = not_same t.0 other.0 s in
    (all_put other.0 t traces (omega (arith, le, apart)) r.0, put)

rising_put : (t : TraceId) (traces : List TraceId) → AreRising (numbers traces) → AreRising (numbers (put_trace t traces))
rising_put t [] r = (tt, tt)
rising_put t (other ∷ traces) r = rising_if t other traces (nat_lt t.0 other.0) (nat_eq t.0 other.0) refl refl r (rising_put t traces r.1)

all_rise : (traces : List TraceId) → AreRising (numbers (rising_traces traces))
all_rise [] = tt
all_rise (t ∷ traces) = rising_put t (rising_traces traces) (all_rise traces)

module _ (test : TraceId → Bool) where
  some_if : (low : ℕ) (t : TraceId) (traces : List TraceId) (b : Bool) → low < t.0 → AllByRecursion (λ (later : ℕ). low < later) (numbers (filter test traces))
      → AllByRecursion (λ (later : ℕ). low < later) (numbers (cond b (t ∷ filter test traces) (filter test traces)))
  some_if low t traces true h all = (h, all)
  some_if low t traces false h all = all

  some_above : (low : ℕ) (traces : List TraceId) → AllByRecursion (λ (later : ℕ). low < later) (numbers traces) → AllByRecursion (λ (later : ℕ). low < later) (numbers (filter test traces))
  some_above low [] all = tt
  some_above low (t ∷ traces) all = some_if low t traces (test t) all.0 (some_above low traces all.1)

  some_rise_if : (t : TraceId) (traces : List TraceId) (b : Bool) → AllByRecursion (λ (later : ℕ). t.0 < later) (numbers (filter test traces)) → AreRising (numbers (filter test traces))
      → AreRising (numbers (cond b (t ∷ filter test traces) (filter test traces)))
  some_rise_if t traces true all r = (all, r)
  some_rise_if t traces false all r = r

  some_rise : (traces : List TraceId) → AreRising (numbers traces) → AreRising (numbers (filter test traces))
  some_rise [] r = tt
  some_rise (t ∷ traces) r = some_rise_if t traces (test t) (some_above t.0 traces r.0) (some_rise traces r.1)

-- ---- reports

module _ (W : PlainWorkload) (J : PlainJournal) where
  abbrev entries : List Entry
  entries = (outcome_of W J).entries

  abbrev has_entry : TraceId → Bool
  has_entry trace = list_any (is_of trace) entries

  abbrev nodes : List NodeRun
  nodes = (followed W J).nodes

  pub reports_are_of_claimed : map name_of (outcome_of W J).entries ≡ all_records W → (trace : TraceId)
      → list_any (λ (report : Report). same_trace trace report.trace) (reports_of W J) ≡ (is_claimed_in (followed W J).nodes trace && has_record W trace)
  reports_are_of_claimed named trace =
      list_any_map (λ (report : Report). same_trace trace report.trace) (report_of W entries) (reported_traces (outcome_of W J))
      ∙ among_filter trace has_entry (rising_traces (flat_map claimed_at nodes))
      ∙ ap (λ b. b && has_entry trace) (among_rising trace (flat_map claimed_at nodes) ∙ among_claimed trace nodes)
      ∙ ap (λ b. is_claimed_in nodes trace && b)
      (sym (list_any_map (λ (r : Named). nat_eq r.trace.0 trace.0) name_of entries) ∙ ap (λ (records : List Named). list_any (λ (r : Named). nat_eq r.trace.0 trace.0) records) named)

  numbered : (traces : List TraceId) → AreRising (numbers traces) → AreRising (map (λ (report : Report). report.trace.0) (map (report_of W entries) traces))
  numbered traces r = same traces r
    where
      all_same : (low : ℕ) (traces : List TraceId) → AllByRecursion (λ (later : ℕ). low < later) (numbers traces)
          → AllByRecursion (λ (later : ℕ). low < later) (map (λ (report : Report). report.trace.0) (map (report_of W entries) traces))
      all_same low [] all = tt
      all_same low (t ∷ traces) all = (all.0, all_same low traces all.1)

      same : (traces : List TraceId) → AreRising (numbers traces) → AreRising (map (λ (report : Report). report.trace.0) (map (report_of W entries) traces))
      same [] r = tt
      same (t ∷ traces) r = (all_same t.0 traces r.0, same traces r.1)

  pub reports_rise : AreRising (map (λ (report : Report). report.trace.0) (reports_of W J))
  reports_rise = numbered (reported_traces (outcome_of W J)) (some_rise has_entry (rising_traces (flat_map claimed_at nodes)) (all_rise (flat_map claimed_at nodes)))
