-- What one more page makes of a collection: its trace's records take its pieces, or the trace joins at the end.
use Rattle.std.proofs.Common.{◌≡◌, ℕ, ◌==◌, Bool, true, false, not, ◌||◌, cond, List, [], ◌∷◌, ◌++◌, filter, All, map, Some, refl, sym, ap, ◌∙◌, subst, arith}
use Rattle.hs_collect.proofs.Prelude.{list_any, flat_map, IsDistinct, lookup, set_value, append-nil, map-append, All-cons, All-head, All-tail, All-nil, All-push, filter-append, flat_map-append, nat_tests, TraceId, Sheet, Placed, is_of, page_pieces, pieces_of, AreWholes, AreCollected, first_seen, Collection}
use Rattle.std.specs.List.{AllByRecursion}
use Rattle.hs_base.proofs.Bools.{second_false, first_false}
use Rattle.hs_collect.proofs.Seen.{is_trace, any-others, none-unseen}

-- ---- the traces that were seen

abbrev others : TraceId → TraceId → Bool
others trace other = not (other.0 == trace.0)

-- leaving out the first trace, where another is seen or joins at the end
left_out : (first trace : TraceId) (traces : List TraceId) (seen same : Bool) → list_any (is_trace trace) traces ≡ seen → (trace.0 == first.0) ≡ same
    → filter (others first) (cond seen traces (traces ++ trace ∷ []))
    ≡ cond (same || list_any (is_trace trace) (filter (others first) traces)) (filter (others first) traces) (cond same (filter (others first) traces) (filter (others first) traces ++ trace ∷ []))
left_out first trace traces true true seen same = refl
left_out first trace traces false true seen same =
    filter-append (others first) traces (trace ∷ []) ∙ ap (λ b. filter (others first) traces ++ cond (not b) (trace ∷ []) []) same ∙ append-nil (filter (others first) traces)
left_out first trace traces true false seen same =
    sym (ap (λ b. cond b (filter (others first) traces) (filter (others first) traces ++ trace ∷ [])) (any-others trace first traces same ∙ seen))
left_out first trace traces false false seen same =
    filter-append (others first) traces (trace ∷ []) ∙ ap (λ b. filter (others first) traces ++ cond (not b) (trace ∷ []) []) same
    ∙ sym (ap (λ b. cond b (filter (others first) traces) (filter (others first) traces ++ trace ∷ [])) (any-others trace first traces same ∙ seen))

cons_cond : (first trace : TraceId) (traces : List TraceId) (same seen : Bool)
    → first ∷ cond (same || seen) traces (cond same traces (traces ++ trace ∷ [])) ≡ cond (same || seen) (first ∷ traces) (first ∷ traces ++ trace ∷ [])
cons_cond first trace traces true seen = refl
cons_cond first trace traces false true = refl
cons_cond first trace traces false false = refl

seen-more : (sheets : List Sheet) (sheet : Sheet)
    → first_seen (sheets ++ sheet ∷ []) ≡ cond (list_any (is_trace sheet.header.trace) (first_seen sheets)) (first_seen sheets) (first_seen sheets ++ sheet.header.trace ∷ [])
seen-more [] sheet = refl
seen-more (first ∷ sheets) sheet =
    let trace = sheet.header.trace in
    let left = filter (others first.header.trace) (first_seen sheets) in
    ap (λ traces. first.header.trace ∷ filter (others first.header.trace) traces) (seen-more sheets sheet)
    ∙ ap (λ traces. first.header.trace ∷ traces)
    (left_out first.header.trace trace (first_seen sheets) (list_any (is_trace trace) (first_seen sheets)) (trace.0 == first.header.trace.0) refl refl)
    ∙ cons_cond first.header.trace trace left (trace.0 == first.header.trace.0) (list_any (is_trace trace) left)

-- ---- the pieces of a trace

pieces-more : (trace : TraceId) (sheets : List Sheet) (sheet : Sheet) → pieces_of trace (sheets ++ sheet ∷ []) ≡ pieces_of trace sheets ++ cond (is_of trace sheet) (page_pieces sheet) []
pieces-more trace sheets sheet =
    ap (flat_map page_pieces) (filter-append (is_of trace) sheets (sheet ∷ [])) ∙ flat_map-append page_pieces (filter (is_of trace) sheets) (filter (is_of trace) (sheet ∷ []))
    ∙ ap (λ more. pieces_of trace sheets ++ more) (one (is_of trace sheet))
  where
    one : (b : Bool) → flat_map page_pieces (cond b (sheet ∷ []) []) ≡ cond b (page_pieces sheet) []
    one true = append-nil (page_pieces sheet)
    one false = refl

pub pieces-own : (sheets : List Sheet) (sheet : Sheet) → pieces_of sheet.header.trace (sheets ++ sheet ∷ []) ≡ pieces_of sheet.header.trace sheets ++ page_pieces sheet
pieces-own sheets sheet =
    let its : is_of sheet.header.trace sheet ≡ true = grind (arith, nat_tests) in
    pieces-more sheet.header.trace sheets sheet ∙ ap (λ b. pieces_of sheet.header.trace sheets ++ cond b (page_pieces sheet) []) its

pieces-other : (trace : TraceId) (sheets : List Sheet) (sheet : Sheet) → is_trace sheet.header.trace trace ≡ false → pieces_of trace (sheets ++ sheet ∷ []) ≡ pieces_of trace sheets
pieces-other trace sheets sheet apart =
    pieces-more trace sheets sheet ∙ ap (λ b. pieces_of trace sheets ++ cond b (page_pieces sheet) []) apart ∙ append-nil (pieces_of trace sheets)

-- ---- the entries

abbrev pub HasWholes : List Sheet → TraceId × List Placed → Type 0
HasWholes sheets entry = AreWholes (pieces_of entry.0 sheets) entry.1

abbrev pub traces_of : Collection → List TraceId
traces_of collection = map (λ entry. entry.0) collection

kept : (sheets : List Sheet) (sheet : Sheet) (entry : TraceId × List Placed) → is_trace sheet.header.trace entry.0 ≡ false → HasWholes sheets entry → HasWholes (sheets ++ sheet ∷ []) entry
kept sheets sheet entry apart has = subst (λ (ps : List Placed). AreWholes ps entry.1) (sym (pieces-other entry.0 sheets sheet apart)) has

all-kept : (sheets : List Sheet) (sheet : Sheet) (entries : Collection) → list_any (is_trace sheet.header.trace) (traces_of entries) ≡ false → All (HasWholes sheets) entries
    → All (HasWholes (sheets ++ sheet ∷ [])) entries
all-kept sheets sheet [] apart each = All-nil (HasWholes (sheets ++ sheet ∷ []))
all-kept sheets sheet (entry ∷ entries) apart each =
    All-cons (HasWholes (sheets ++ sheet ∷ [])) entry entries
    (kept sheets sheet entry (first_false _ _ apart) (All-head (HasWholes sheets) entry entries each))
    (all-kept sheets sheet entries (second_false _ _ apart) (All-tail (HasWholes sheets) entry entries each))

-- one trace more at the end
pub joins_last : (sheets : List Sheet) (sheet : Sheet) (entries : Collection) (wholes : List Placed) → AreCollected sheets entries → list_any (is_trace sheet.header.trace) (traces_of entries) ≡ false
    → AreWholes ([] ++ page_pieces sheet) wholes → AreCollected (sheets ++ sheet ∷ []) (entries ++ (sheet.header.trace, wholes) ∷ [])
joins_last sheets sheet entries wholes collected new has =
    let unseen : list_any (is_trace sheet.header.trace) (first_seen sheets) ≡ false = ap (list_any (is_trace sheet.header.trace)) (sym collected.seen) ∙ new in
    let none : pieces_of sheet.header.trace sheets ≡ [] = ap (flat_map page_pieces) (none-unseen sheet.header.trace sheets unseen) in
    record {
      seen =
          map-append (λ (entry : TraceId × List Placed). entry.0) entries ((sheet.header.trace, wholes) ∷ [])
          ∙ ap (λ traces. traces ++ sheet.header.trace ∷ []) collected.seen
          ∙ sym (seen-more sheets sheet ∙ ap (λ b. cond b (first_seen sheets) (first_seen sheets ++ sheet.header.trace ∷ [])) unseen);
      each =
          All-push (HasWholes (sheets ++ sheet ∷ [])) entries (sheet.header.trace, wholes) (all-kept sheets sheet entries new collected.each)
          (subst (λ (ps : List Placed). AreWholes ps wholes) (sym (pieces-own sheets sheet ∙ ap (λ ps. ps ++ page_pieces sheet) none)) has);
    }

-- the records of a trace that is there, changed
traces-set : (test : TraceId → Bool) (entries : Collection) (wholes : List Placed) → traces_of (set_value test entries wholes) ≡ traces_of entries
traces-set test [] wholes = refl
traces-set test (entry ∷ entries) wholes = by_test (test entry.0) (traces-set test entries wholes)
  where
    by_test : (b : Bool) → traces_of (set_value test entries wholes) ≡ traces_of entries → traces_of (cond b ((entry.0, wholes) ∷ entries) (entry ∷ set_value test entries wholes)) ≡ traces_of (entry ∷ entries)
    by_test true later = refl
    by_test false later = ap (λ traces. entry.0 ∷ traces) later

found_seen : (trace : TraceId) (entries : Collection) (wholes : List Placed) → lookup (is_trace trace) entries ≡ Some wholes → list_any (is_trace trace) (traces_of entries) ≡ true
found_seen trace [] wholes found = absurd (cc)
found_seen trace (entry ∷ entries) wholes found = by_test (is_trace trace entry.0) found (found_seen trace entries wholes)
  where
    by_test : (b : Bool) → cond b (Some entry.1) (lookup (is_trace trace) entries) ≡ Some wholes → (lookup (is_trace trace) entries ≡ Some wholes → list_any (is_trace trace) (traces_of entries) ≡ true)
        → (b || list_any (is_trace trace) (traces_of entries)) ≡ true
    by_test true here later = refl
    by_test false there later = later there

same_trace : (a b : TraceId) → is_trace a b ≡ true → a ≡ b
same_trace a b same =
    let number : a.0 ≡ b.0 = grind (arith, nat_tests) in
    ap (λ n. trace_of n) number
  where
    trace_of : ℕ → TraceId
    trace_of n = record { 0 = n }

apart_all : (trace first : TraceId) (traces : List TraceId) → is_trace trace first ≡ true → AllByRecursion (λ other. is_trace first other ≡ false) traces → list_any (is_trace trace) traces ≡ false
apart_all trace first [] same apart = refl
apart_all trace first (other ∷ traces) same apart =
    let differs : is_trace trace other ≡ false = subst (λ (t : TraceId). is_trace t other ≡ false) (sym (same_trace trace first same)) apart.0 in
    ap (λ b. b || list_any (is_trace trace) traces) differs ∙ apart_all trace first traces same apart.1

all-set : (sheets : List Sheet) (sheet : Sheet) (entries : Collection) (wholes : List Placed) → IsDistinct is_trace (traces_of entries) → All (HasWholes sheets) entries
    → AreWholes (pieces_of sheet.header.trace (sheets ++ sheet ∷ [])) wholes → All (HasWholes (sheets ++ sheet ∷ [])) (set_value (is_trace sheet.header.trace) entries wholes)
unfolding IsDistinct
all-set sheets sheet [] wholes distinct each has = All-nil (HasWholes (sheets ++ sheet ∷ []))
all-set sheets sheet (entry ∷ entries) wholes distinct each has =
    by_test (is_trace sheet.header.trace entry.0) refl (all-set sheets sheet entries wholes distinct.1 (All-tail (HasWholes sheets) entry entries each) has)
  where
    by_test : (b : Bool) → is_trace sheet.header.trace entry.0 ≡ b → All (HasWholes (sheets ++ sheet ∷ [])) (set_value (is_trace sheet.header.trace) entries wholes)
        → All (HasWholes (sheets ++ sheet ∷ [])) (cond b ((entry.0, wholes) ∷ entries) (entry ∷ set_value (is_trace sheet.header.trace) entries wholes))
    by_test true same later =
        All-cons (HasWholes (sheets ++ sheet ∷ [])) (entry.0, wholes) entries
        (subst (λ (t : TraceId). AreWholes (pieces_of t (sheets ++ sheet ∷ [])) wholes) (same_trace sheet.header.trace entry.0 same) has)
        (all-kept sheets sheet entries (apart_all sheet.header.trace entry.0 (traces_of entries) same distinct.0) (All-tail (HasWholes sheets) entry entries each))
    by_test false apart later =
        All-cons (HasWholes (sheets ++ sheet ∷ [])) entry (set_value (is_trace sheet.header.trace) entries wholes) (kept sheets sheet entry apart (All-head (HasWholes sheets) entry entries each)) later

pub takes_page : (sheets : List Sheet) (sheet : Sheet) (entries : Collection) (old new : List Placed) → AreCollected sheets entries → IsDistinct is_trace (traces_of entries)
    → lookup (is_trace sheet.header.trace) entries ≡ Some old → AreWholes (pieces_of sheet.header.trace sheets ++ page_pieces sheet) new
    → AreCollected (sheets ++ sheet ∷ []) (set_value (is_trace sheet.header.trace) entries new)
takes_page sheets sheet entries old new collected distinct found has =
    let seen_before : list_any (is_trace sheet.header.trace) (first_seen sheets) ≡ true =
    ap (list_any (is_trace sheet.header.trace)) (sym collected.seen) ∙ found_seen sheet.header.trace entries old found in
    record {
      seen =
          traces-set (is_trace sheet.header.trace) entries new ∙ collected.seen
          ∙ sym (seen-more sheets sheet ∙ ap (λ b. cond b (first_seen sheets) (first_seen sheets ++ sheet.header.trace ∷ [])) seen_before);
      each =
          all-set sheets sheet entries new distinct collected.each (subst (λ (ps : List Placed). AreWholes ps new) (sym (pieces-own sheets sheet)) has);
    }
