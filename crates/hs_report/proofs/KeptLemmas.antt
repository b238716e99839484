-- What stays of a ledger's entries makes the same reports of the claimed traces as all of them.
use Rattle.std.proofs.Common.{◌≡◌, ℕ, ◌+◌, ◌<◌, Bool, true, false, ◌&&◌, ◌||◌, cond, not, eqb, List, [], ◌∷◌, length, get_or, take, map, sym, ap, ◌∙◌, refl, eq-eqb, arith}
use Rattle.hs_report.proofs.Prelude.{filter, list_any, or_left, take_more, nat_tests, first_true, second_true, filter_weaker, TraceId, RecordId, same_trace, is_among, Placed, is_same, PlainJournal, IsLawful, Entry, is_reported, CollectedRecordsAreWhole, was_reported, outcome_of, is_of, PlainWorkload, IsValid, Sorted, Outcome, AreFatesOf, has_entry, is_kept, kept_of, IsOutcome, AreSorted, records_by, report_by, gaps_of}
use Rattle.std.proofs.Math.Bool.{or-true}
use Rattle.std.proofs.lemmas.List.Folds.{list_any-append}
use Rattle.std.proofs.lemmas.List.Elements.{filter_agree}
use Rattle.std.proofs.lemmas.Map.Views.{any-filter_same}
use Rattle.hs_report.proofs.Written.{shown, reports_are}

-- ---- two functions that agree where it counts

at_itself : (trace : TraceId) (traces : List TraceId) → is_among (trace ∷ traces) trace ≡ true
at_itself trace traces = ap (λ (t : Bool). t || is_among traces trace) (eq-eqb trace.0 trace.0 refl)

further : (x : TraceId) (traces : List TraceId) (trace : TraceId) → is_among traces trace ≡ true → is_among (x ∷ traces) trace ≡ true
further x traces trace is = ap (λ t. same_trace x trace || t) is ∙ or-true (same_trace x trace)

filter_among : (p q : TraceId → Bool) (traces : List TraceId) → ((trace : TraceId) → is_among traces trace ≡ true → p trace ≡ q trace) → filter p traces ≡ filter q traces
filter_among p q [] same = refl
filter_among p q (x ∷ traces) same =
    ap (λ t. cond t (x ∷ filter p traces) (filter p traces)) (same x (at_itself x traces))
    ∙ ap (λ rest. cond (q x) (x ∷ rest) rest) (filter_among p q traces (λ trace is. same trace (further x traces trace is)))

map_more : {Y : Type 0} (f g : TraceId → Y) (x : TraceId) (xs : List TraceId) (t : Bool) → f x ≡ g x → map f xs ≡ map g xs → map f (cond t (x ∷ xs) xs) ≡ map g (cond t (x ∷ xs) xs)
map_more f g x xs true here rest = ap (λ y. y ∷ map f xs) here ∙ ap (λ ys. g x ∷ ys) rest
map_more f g x xs false here rest = rest

map_among : {Y : Type 0} (f g : TraceId → Y) (p : TraceId → Bool) (traces : List TraceId) → ((trace : TraceId) → is_among traces trace ≡ true → f trace ≡ g trace) → map f (filter p traces) ≡ map g (filter p traces)
map_among f g p [] same = refl
map_among f g p (x ∷ traces) same =
    map_more f g x (filter p traces) (p x) (same x (at_itself x traces)) (map_among f g p traces (λ trace is. same trace (further x traces trace is)))

-- ---- the entries of a claimed trace stay

of_the_trace : (trace : TraceId) (entry : Entry) → is_of trace entry ≡ true → entry.trace.0 ≡ trace.0
of_the_trace trace entry is = grind (arith, nat_tests)

stays : (claimed : List TraceId) (trace : TraceId) (entry : Entry) → is_among claimed trace ≡ true → is_of trace entry ≡ true → is_kept claimed entry ≡ true
stays claimed trace entry among is =
    or_left (is_among claimed entry.trace) (is_reported entry.fate) (ap (λ n. list_any (λ (t : TraceId). eqb t.0 n) claimed) (of_the_trace trace entry is) ∙ among)

-- those that say reported stay too
stays_reported : (claimed : List TraceId) (id : RecordId) (entry : Entry) → (is_same entry.id id && is_reported entry.fate) ≡ true → is_kept claimed entry ≡ true
stays_reported claimed id entry is =
    ap (λ t. is_among claimed entry.trace || t) (second_true (is_same entry.id id) (is_reported entry.fate) is) ∙ or-true (is_among claimed entry.trace)

reported_kept : (claimed : List TraceId) (entries : List Entry) (id : RecordId) → was_reported (filter (is_kept claimed) entries) id ≡ was_reported entries id
reported_kept claimed entries id = any-filter_same (λ (entry : Entry). is_same entry.id id && is_reported entry.fate) (is_kept claimed) true (stays_reported claimed id) entries

entry_kept : (claimed : List TraceId) (entries : List Entry) (trace : TraceId) → is_among claimed trace ≡ true → has_entry (filter (is_kept claimed) entries) trace ≡ has_entry entries trace
entry_kept claimed entries trace among = any-filter_same (is_of trace) (is_kept claimed) true (λ entry is. stays claimed trace entry among is) entries

gaps_kept : (claimed : List TraceId) (entries : List Entry) (trace : TraceId) → is_among claimed trace ≡ true → gaps_of (filter (is_kept claimed) entries) trace ≡ gaps_of entries trace
gaps_kept claimed entries trace among =
    filter_weaker (λ (entry : Entry). is_of trace entry && not (is_reported entry.fate)) (is_kept claimed)
    (λ entry is. stays claimed trace entry among (first_true (is_of trace entry) (not (is_reported entry.fate)) is)) entries

-- ---- the reports

pub sorted_kept : CollectedRecordsAreWhole → (W : PlainWorkload) (J : PlainJournal) (outcome : Outcome) (sorted : Sorted) → IsValid W → IsLawful W J → IsOutcome W J outcome
    → AreFatesOf (kept_of outcome) sorted.fates → sorted.traces.items ≡ filter (has_entry (kept_of outcome)) outcome.claimed.items → AreSorted W J outcome sorted
sorted_kept whole W J outcome sorted valid lawful is are found =
    let claimed = outcome.claimed.items in
    let entries = outcome.ledger.entries.items in
    let kept = kept_of outcome in
    let records = records_by W entries in
    let traces : sorted.traces.items ≡ filter (has_entry entries) claimed = found ∙ filter_among (has_entry kept) (has_entry entries) claimed (entry_kept claimed entries) in
    let same = map_among (report_by kept records) (report_by entries records) (has_entry entries) claimed
    (λ trace among. ap (λ gaps. record { trace = trace; records = records trace; gaps = gaps }) (gaps_kept claimed entries trace among)) in
    record {
      hold = record {
        are = are;
        sheets = (outcome_of W J).reported;
        collected = is.collected;
        show = λ trace wholes all.
            filter_agree (λ (whole : Placed). was_reported kept whole.id) (λ (whole : Placed). was_reported entries whole.id) (λ whole. reported_kept claimed entries whole.id) wholes
            ∙ shown whole W J outcome valid lawful is trace wholes all;
      };
      reports = ap (map (report_by kept records)) traces ∙ same ∙ ap (map (report_by entries records)) (sym traces) ∙ reports_are W J outcome sorted.traces.items is traces;
    }

-- ---- the loops

pub claimed_or_reported : (claimed : List TraceId) (entry : Entry) (is : Bool) → is ≡ is_among claimed entry.trace
    → filter (λ (entry : Entry). is || is_reported entry.fate) (entry ∷ []) ≡ filter (is_kept claimed) (entry ∷ [])
claimed_or_reported claimed entry is same = ap (λ (t : Bool). cond (t || is_reported entry.fate) (entry ∷ []) []) same

either : (a b : Bool) → cond a true b ≡ (b || (a || false))
either true true = refl
either true false = refl
either false true = refl
either false false = refl

-- one trace more in the set
pub among_more : (traces : List TraceId) (i : ℕ) (d trace : TraceId) (before : Bool) → i < length traces → before ≡ is_among (take i traces) trace
    → cond (same_trace (get_or traces i d) trace) true before ≡ is_among (take (i + 1) traces) trace
among_more traces i d trace before lt is =
    ap (λ t. cond (same_trace (get_or traces i d) trace) true t) is ∙ either (same_trace (get_or traces i d) trace) (is_among (take i traces) trace)
    ∙ sym (list_any-append (λ (t : TraceId). same_trace t trace) (take i traces) (get_or traces i d ∷ [])) ∙ ap (list_any (λ (t : TraceId). same_trace t trace)) (sym (take_more traces i d lt))
