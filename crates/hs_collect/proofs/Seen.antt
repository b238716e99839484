-- A trace is among those that were seen exactly where one of the pages is of it.
use Rattle.std.proofs.Common.{◌≡◌, ◌≢◌, ◌==◌, Bool, true, false, not, ◌||◌, cond, List, [], ◌∷◌, filter, refl, sym, ap, ◌∙◌, All, map, subst, Option, Some, None, MatchOption, is_some, Bor, arith}
use Rattle.hs_collect.proofs.Prelude.{list_any, lookup, All-tail, nat_tests, TraceId, Sheet, TraceRecords, Placed, is_of, pieces_of, AreWholes, AreCollected, first_seen, wholes_of, collection_of}
use Rattle.std.specs.Option.{option_copied}

abbrev pub is_trace : TraceId → TraceId → Bool
is_trace trace other = trace.0 == other.0

-- leaving out another trace changes nothing
pub any-others : (trace left : TraceId) (traces : List TraceId) → (trace.0 == left.0) ≡ false
    → list_any (is_trace trace) (filter (λ other. not (other.0 == left.0)) traces) ≡ list_any (is_trace trace) traces
any-others trace left [] apart = refl
any-others trace left (other ∷ traces) apart = by_test (other.0 == left.0) refl (any-others trace left traces apart)
  where
    by_test : (b : Bool) → (other.0 == left.0) ≡ b → list_any (is_trace trace) (filter (λ t. not (t.0 == left.0)) traces) ≡ list_any (is_trace trace) traces
        → list_any (is_trace trace) (cond (not b) (other ∷ filter (λ t. not (t.0 == left.0)) traces) (filter (λ t. not (t.0 == left.0)) traces)) ≡ list_any (is_trace trace) (other ∷ traces)
    by_test true same later =
        let differs : is_trace trace other ≡ false = grind (arith, nat_tests) in
        later ∙ ap (λ b. b || list_any (is_trace trace) traces) (sym differs)
    by_test false differs later = ap (λ b. is_trace trace other || b) later

-- a trace that was not seen has no page
pub none-unseen : (trace : TraceId) (sheets : List Sheet) → list_any (is_trace trace) (first_seen sheets) ≡ false → filter (is_of trace) sheets ≡ []
none-unseen trace [] unseen = refl
none-unseen trace (sheet ∷ sheets) unseen = by_test (trace.0 == sheet.header.trace.0) refl unseen (none-unseen trace sheets)
  where
    by_test : (b : Bool) → (trace.0 == sheet.header.trace.0) ≡ b → (b || list_any (is_trace trace) (filter (λ other. not (other.0 == sheet.header.trace.0)) (first_seen sheets))) ≡ false
        → (list_any (is_trace trace) (first_seen sheets) ≡ false → filter (is_of trace) sheets ≡ []) → filter (is_of trace) (sheet ∷ sheets) ≡ []
    by_test true same seen later = absurd (cc)
    by_test false differs rest later =
        let misses : is_of trace sheet ≡ false = grind (arith, nat_tests) in
        ap (λ b. cond b (sheet ∷ filter (is_of trace) sheets) (filter (is_of trace) sheets)) misses
        ∙ later (sym (any-others trace sheet.header.trace (first_seen sheets) differs) ∙ rest)

-- a trace that was seen has a page
pub some-seen : (trace : TraceId) (sheets : List Sheet) → list_any (is_trace trace) (first_seen sheets) ≡ true → filter (is_of trace) sheets ≢ []
some-seen trace [] seen = λ empty. absurd (cc)
some-seen trace (sheet ∷ sheets) seen = by_test (trace.0 == sheet.header.trace.0) refl seen (some-seen trace sheets)
  where
    by_test : (b : Bool) → (trace.0 == sheet.header.trace.0) ≡ b → (b || list_any (is_trace trace) (filter (λ other. not (other.0 == sheet.header.trace.0)) (first_seen sheets))) ≡ true
        → (list_any (is_trace trace) (first_seen sheets) ≡ true → filter (is_of trace) sheets ≢ []) → filter (is_of trace) (sheet ∷ sheets) ≢ []
    by_test true same here later =
        let has : is_of trace sheet ≡ true = grind (arith, nat_tests) in
        let is : filter (is_of trace) (sheet ∷ sheets) ≡ sheet ∷ filter (is_of trace) sheets = ap (λ b. cond b (sheet ∷ filter (is_of trace) sheets) (filter (is_of trace) sheets)) has in
        λ empty. let e : sheet ∷ filter (is_of trace) sheets ≡ [] = sym is ∙ empty in absurd (cc)
    by_test false differs rest later =
        let misses : is_of trace sheet ≡ false = grind (arith, nat_tests) in
        let is : filter (is_of trace) (sheet ∷ sheets) ≡ filter (is_of trace) sheets = ap (λ b. cond b (sheet ∷ filter (is_of trace) sheets) (filter (is_of trace) sheets)) misses in
        λ empty. later (sym (any-others trace sheet.header.trace (first_seen sheets) differs) ∙ rest) (sym is ∙ empty)

-- ---- the entry of a trace

pub any-keys : (trace : TraceId) (entries : List (TraceId × TraceRecords)) → list_any (is_trace trace) (map (λ entry. entry.0) (collection_of entries)) ≡ is_some (lookup (is_trace trace) entries)
any-keys trace [] = refl
any-keys trace (entry ∷ entries) = by_test (is_trace trace entry.0) (any-keys trace entries)
  where
    by_test : (b : Bool) → list_any (is_trace trace) (map (λ e. e.0) (collection_of entries)) ≡ is_some (lookup (is_trace trace) entries)
        → (b || list_any (is_trace trace) (map (λ e. e.0) (collection_of entries))) ≡ is_some (cond b (Some entry.1) (lookup (is_trace trace) entries))
    by_test true later = refl
    by_test false later = later

pub wholes-found : (trace : TraceId) (sheets : List Sheet) (entries : List (TraceId × TraceRecords)) (records : TraceRecords) → All (λ (entry : TraceId × List Placed). AreWholes (pieces_of entry.0 sheets) entry.1) (collection_of entries)
    → lookup (is_trace trace) entries ≡ Some records → AreWholes (pieces_of trace sheets) (wholes_of records)
wholes-found trace sheets [] records each found = absurd (cc)
wholes-found trace sheets (entry ∷ entries) records each found =
    by_test (is_trace trace entry.0) refl found
    (wholes-found trace sheets entries records (All-tail (λ (e : TraceId × List Placed). AreWholes (pieces_of e.0 sheets) e.1) (entry.0, wholes_of entry.1) (collection_of entries) each))
  where
    by_test : (b : Bool) → is_trace trace entry.0 ≡ b → cond b (Some entry.1) (lookup (is_trace trace) entries) ≡ Some records
        → (lookup (is_trace trace) entries ≡ Some records → AreWholes (pieces_of trace sheets) (wholes_of records)) → AreWholes (pieces_of trace sheets) (wholes_of records)
    by_test true same here later =
        let number : entry.0.0 ≡ trace.0 = grind (arith, nat_tests) in
        let is : entry.1 ≡ records = cc in
        subst (λ n. AreWholes (pieces_of (record { 0 = n }) sheets) (wholes_of records)) number
        (subst (λ r. AreWholes (pieces_of entry.0 sheets) (wholes_of r)) is (each 0 (entry.0, wholes_of entry.1) (omega arith)))
    by_test false differs there later = later there

-- what is found of a trace
pub traced : (trace : TraceId) (sheets : List Sheet) (entries : List (TraceId × TraceRecords)) (found : Option TraceRecords) → AreCollected sheets (collection_of entries) → found ≡ lookup (is_trace trace) entries
    → MatchOption found (filter (is_of trace) sheets ≡ []) (λ records. (filter (is_of trace) sheets ≢ []) × AreWholes (pieces_of trace sheets) (wholes_of records))
traced trace sheets entries None collected is =
    none-unseen trace sheets (ap (list_any (is_trace trace)) (sym collected.seen) ∙ any-keys trace entries ∙ ap is_some (sym is))
traced trace sheets entries (Some records) collected is =
    (some-seen trace sheets (ap (list_any (is_trace trace)) (sym collected.seen) ∙ any-keys trace entries ∙ ap is_some (sym is)), wholes-found trace sheets entries records collected.each (sym is))

-- the same of a reference
pub traced_at : (trace : TraceId) (sheets : List Sheet) (found : Option (Bor TraceRecords)) → MatchOption (option_copied found) (filter (is_of trace) sheets ≡ []) (λ records. (filter (is_of trace) sheets ≢ []) × AreWholes (pieces_of trace sheets) (wholes_of records))
    → MatchOption found (filter (is_of trace) sheets ≡ []) (λ records. (filter (is_of trace) sheets ≢ []) × AreWholes (pieces_of trace sheets) (wholes_of records.now))
traced_at trace sheets None fact = fact
traced_at trace sheets (Some records) fact = fact

pub keys_seen : (sheets : List Sheet) (entries : List (TraceId × TraceRecords)) → AreCollected sheets (collection_of entries) → map (λ (entry : TraceId × TraceRecords). entry.0) entries ≡ first_seen sheets
keys_seen sheets entries collected = sym (same_keys entries) ∙ collected.seen
  where
    same_keys : (es : List (TraceId × TraceRecords)) → map (λ (entry : TraceId × List Placed). entry.0) (collection_of es) ≡ map (λ (entry : TraceId × TraceRecords). entry.0) es
    same_keys [] = refl
    same_keys (e ∷ es) = ap (λ rest. e.0 ∷ rest) (same_keys es)
