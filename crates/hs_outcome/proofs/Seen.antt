-- The traces of pages as they are first seen: one page more, each stands once, and each is that of a page.
use Rattle.std.proofs.Common.{◌≡◌, ◌==◌, Bool, true, false, not, ◌||◌, cond, [], ◌∷◌, ◌++◌, length, sym, ap, ◌∙◌, refl, append-nil, arith}
use Rattle.hs_outcome.proofs.Prelude.{AllByRecursion, filter, list_any, IsDistinct, nat_tests, filter-append, recursion_from_All, All-from_recursion, All-filter, filter_weaker, TraceId, first_seen, Sheets, Sheet, Traces, with_trace}
use Rattle.std.proofs.lemmas.List.Elements.{filter_passes}
use Rattle.hs_collect.specs.Collected.{is_of}
use Rattle.hs_base.proofs.Filters.{any_filtered}

abbrev pub is_trace : TraceId → TraceId → Bool
is_trace trace other = trace.0 == other.0

-- whether a trace stays where this one is left out
abbrev pub is_other : TraceId → TraceId → Bool
is_other left trace = not (trace.0 == left.0)

-- ---- one page more

-- a trace is among those that are left exactly where it was among all
any_left : (trace left : TraceId) (traces : Traces) → (trace.0 == left.0) ≡ false → list_any (is_trace trace) (filter (is_other left) traces) ≡ list_any (is_trace trace) traces
any_left trace left traces apart =
    sym (any_filtered (is_trace trace) (filter (is_other left) traces))
    ∙ ap (λ (found : Traces). not (length found == 0)) (filter_weaker (is_trace trace) (is_other left) (λ other same. grind (arith, nat_tests)) traces)
    ∙ any_filtered (is_trace trace) traces

any_first : (left trace : TraceId) (traces : Traces) (same : Bool) → (trace.0 == left.0) ≡ same → list_any (is_trace trace) (left ∷ filter (is_other left) traces) ≡ (same || list_any (is_trace trace) traces)
any_first left trace traces true is = ap (λ b. b || list_any (is_trace trace) (filter (is_other left) traces)) is
any_first left trace traces false is = ap (λ b. b || list_any (is_trace trace) (filter (is_other left) traces)) is ∙ any_left trace left traces is

left_out : (left trace : TraceId) (traces : Traces) (there same : Bool) → (trace.0 == left.0) ≡ same
    → filter (is_other left) (cond there traces (traces ++ trace ∷ [])) ≡ cond (same || there) (filter (is_other left) traces) (filter (is_other left) traces ++ trace ∷ [])
left_out left trace traces true true is = refl
left_out left trace traces true false is = refl
left_out left trace traces false true is =
    filter-append (is_other left) traces (trace ∷ []) ∙ ap (λ b. filter (is_other left) traces ++ cond (not b) (trace ∷ []) []) is ∙ append-nil (filter (is_other left) traces)
left_out left trace traces false false is = filter-append (is_other left) traces (trace ∷ []) ∙ ap (λ b. filter (is_other left) traces ++ cond (not b) (trace ∷ []) []) is

behind_first : (left trace : TraceId) (traces : Traces) (there : Bool) → left ∷ cond there traces (traces ++ trace ∷ []) ≡ cond there (left ∷ traces) (left ∷ traces ++ trace ∷ [])
behind_first left trace traces true = refl
behind_first left trace traces false = refl

pub seen_more : (sheets : Sheets) (sheet : Sheet) → first_seen (sheets ++ sheet ∷ []) ≡ with_trace (first_seen sheets) sheet.header.trace
seen_more [] sheet = refl
seen_more (first ∷ sheets) sheet =
    let left = first.header.trace in
    let trace = sheet.header.trace in
    let seen = first_seen sheets in
    let rest = filter (is_other left) seen in
    let there = list_any (is_trace trace) seen in
    let same = trace.0 == left.0 in
    ap (λ traces. left ∷ filter (is_other left) traces) (seen_more sheets sheet) ∙ ap (λ traces. left ∷ traces) (left_out left trace seen there same refl) ∙ behind_first left trace rest (same || there)
    ∙ ap (λ b. cond b (left ∷ rest) (left ∷ rest ++ trace ∷ [])) (sym (any_first left trace seen same refl))

-- ---- each stands once

distinct_cases : (trace : TraceId) (kept : Traces) (b : Bool) → AllByRecursion (λ other. is_trace trace other ≡ false) kept → IsDistinct is_trace kept → IsDistinct is_trace (cond b (trace ∷ kept) kept)
unfolding IsDistinct
distinct_cases trace kept true apart rest = (apart, rest)
distinct_cases trace kept false apart rest = rest

distinct_filter : (test : TraceId → Bool) (traces : Traces) → IsDistinct is_trace traces → IsDistinct is_trace (filter test traces)
unfolding IsDistinct
distinct_filter test [] distinct = distinct
distinct_filter test (trace ∷ traces) distinct =
    let P = λ (other : TraceId). is_trace trace other ≡ false in
    distinct_cases trace (filter test traces) (test trace) (recursion_from_All P _ (All-filter test P traces (All-from_recursion P traces distinct.0))) (distinct_filter test traces distinct.1)

apart : (left other : TraceId) → is_other left other ≡ true → is_trace left other ≡ false
apart left other is = grind (arith, nat_tests)

all_apart : (left : TraceId) (traces : Traces) → AllByRecursion (λ (other : TraceId). is_other left other ≡ true) traces → AllByRecursion (λ (other : TraceId). is_trace left other ≡ false) traces
all_apart left [] all = tt
all_apart left (other ∷ traces) all = (apart left other all.0, all_apart left traces all.1)

pub seen_once : (sheets : Sheets) → IsDistinct is_trace (first_seen sheets)
unfolding IsDistinct
seen_once [] = tt
seen_once (sheet ∷ sheets) = (
  all_apart sheet.header.trace _ (recursion_from_All (λ (other : TraceId). is_other sheet.header.trace other ≡ true) _ (filter_passes (is_other sheet.header.trace) (first_seen sheets))),
  distinct_filter (is_other sheet.header.trace) (first_seen sheets) (seen_once sheets),
)

-- ---- each is that of a page

seen_later : (sheet : Sheet) (sheets : Sheets) (traces : Traces) → AllByRecursion (λ (trace : TraceId). list_any (is_of trace) sheets ≡ true) traces → AllByRecursion (λ (trace : TraceId). list_any (is_of trace) (sheet ∷ sheets) ≡ true) traces
seen_later sheet sheets [] all = tt
seen_later sheet sheets (trace ∷ traces) all = (grind (arith, nat_tests), seen_later sheet sheets traces all.1)

pub seen_of_page : (sheets : Sheets) → AllByRecursion (λ (trace : TraceId). list_any (is_of trace) sheets ≡ true) (first_seen sheets)
seen_of_page [] = tt
seen_of_page (sheet ∷ sheets) =
    let test = is_other sheet.header.trace in
    let P = λ (trace : TraceId). list_any (is_of trace) sheets ≡ true in (
      grind (arith, nat_tests),
      seen_later sheet sheets (filter test (first_seen sheets)) (recursion_from_All P _ (All-filter test P (first_seen sheets) (All-from_recursion P (first_seen sheets) (seen_of_page sheets)))),
    )
