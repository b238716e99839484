-- Entries that are sorted by trace: those of a trace stand together, in the order that they had.
use Rattle.std.proofs.Common.{◌≡◌, ℕ, ◌+◌, ◌<◌, ◌≤◌, Bool, true, false, not, ltb, leb, List, [], ◌++◌, length, get_or, take, drop, sym, ap, ◌∙◌, append-nil, length-drop, arith}
use Rattle.hs_report.proofs.Prelude.{filter, ties, nat_tests, get_or-take, get_or-drop, length-take, take-append-drop, filter-append, TraceId, Entry, is_of}
use Rattle.std.specs.List.Sorted.{IsStableByKey, IsPartitionPoint}
use Rattle.std.specs.Ordering.{nat_cmp, is_lt}
use Rattle.hs_base.proofs.Stable.{stable_keeps}
use Rattle.hs_base.proofs.Filters.{filter_whole, filter_nothing}

abbrev pub number_of : Entry → ℕ
number_of entry = entry.trace.0

tie : (trace : TraceId) (x y : Entry) → is_of trace x ≡ true → is_of trace y ≡ true → ties (λ a b. is_lt (nat_cmp a.trace.0 b.trace.0)) x y ≡ true
tie trace x y p q = grind (arith, nat_tests)

pub same_of_trace : (trace : TraceId) (xs ys : List Entry) → IsStableByKey (λ (entry : Entry). entry.trace.0) nat_cmp xs ys → filter (is_of trace) ys ≡ filter (is_of trace) xs
same_of_trace trace xs ys stable = stable_keeps (λ (a b : Entry). is_lt (nat_cmp a.trace.0 b.trace.0)) (is_of trace) xs ys (tie trace) stable

-- ---- the entries of a trace

-- the test of a trace is false below it, and above it
below : (trace : TraceId) (entry : Entry) → ltb entry.trace.0 trace.0 ≡ true → is_of trace entry ≡ false
below trace entry p = grind (arith, nat_tests)

above : (trace : TraceId) (entry : Entry) → leb entry.trace.0 trace.0 ≡ false → is_of trace entry ≡ false
above trace entry p = grind (arith, nat_tests)

here : (trace : TraceId) (entry : Entry) → ltb entry.trace.0 trace.0 ≡ false → leb entry.trace.0 trace.0 ≡ true → is_of trace entry ≡ true
here trace entry p q = grind (arith, nat_tests)

abbrev pub Splits : (Entry → Bool) → List Entry → ℕ → Type 0
Splits test xs i = IsPartitionPoint (λ (y : Entry). test y ≡ true) (λ (y : Entry). test y ≡ false) xs i

-- what lies between the place of the first entry that is not below the trace, and that of the first one above it
pub between : (trace : TraceId) (xs rest : List Entry) (start count : ℕ) → start ≤ length xs → rest ≡ drop start xs → count ≤ length rest
    → Splits (λ (y : Entry). ltb y.trace.0 trace.0) xs start → Splits (λ (y : Entry). leb y.trace.0 trace.0) rest count → take count rest ≡ filter (is_of trace) xs
between trace xs rest start count le is least split more =
    let front : filter (is_of trace) (take start xs) ≡ [] =
    filter_nothing (is_of trace) (take start xs) (λ k d lt.
    let inside : k < start = omega (arith, length-take start xs) in
    below trace (get_or (take start xs) k d) (ap (λ (e : Entry). ltb e.trace.0 trace.0) (get_or-take start xs k d inside) ∙ split.0 k d (omega arith) inside)) in
    let middle : filter (is_of trace) (take count rest) ≡ take count rest =
    filter_whole (is_of trace) (take count rest) (λ k d lt.
    let inside : k < count = omega (arith, length-take count rest) in
    let same = get_or-take count rest k d inside in
    let far : get_or rest k d ≡ get_or xs (start + k) d = ap (λ (es : List Entry). get_or es k d) is ∙ get_or-drop start xs k d in
    here trace (get_or (take count rest) k d)
    (ap (λ (e : Entry). ltb e.trace.0 trace.0) (same ∙ far) ∙ split.1 (start + k) d (omega arith) (omega (arith, ap length is, length-drop start xs)))
    (ap (λ (e : Entry). leb e.trace.0 trace.0) same ∙ more.0 k d (omega arith) inside)) in
    let back : filter (is_of trace) (drop count rest) ≡ [] =
    filter_nothing (is_of trace) (drop count rest) (λ k d lt.
    let inside : count + k < length rest = omega (arith, length-drop count rest) in
    above trace (get_or (drop count rest) k d) (ap (λ (e : Entry). leb e.trace.0 trace.0) (get_or-drop count rest k d) ∙ more.1 (count + k) d (omega arith) inside)) in
    let both : filter (is_of trace) rest ≡ take count rest =
    ap (filter (is_of trace)) (sym (take-append-drop count rest)) ∙ filter-append (is_of trace) (take count rest) (drop count rest) ∙ ap (λ t. filter (is_of trace) (take count rest) ++ t) back
    ∙ append-nil (filter (is_of trace) (take count rest)) ∙ middle in
    sym both ∙ ap (filter (is_of trace)) is ∙ ap (λ t. t ++ filter (is_of trace) (drop start xs)) (sym front) ∙ sym (filter-append (is_of trace) (take start xs) (drop start xs))
    ∙ ap (filter (is_of trace)) (take-append-drop start xs)
