-- The report of a trace, by what was appended.
use Rattle.std.proofs.Common.{◌≡◌, ℕ, Bool, true, false, cond, ◌&&◌, not, List, [], ◌∷◌, ◌++◌, map, codes, sym, ap, ◌∙◌, refl, subst, append_assoc, arith}
use Rattle.hs_report.proofs.Prelude.{filter, flat_map, flat_map-append, TraceId, Placed, AreCollected, AreWholes, pieces_of, Sheets, Entry, is_reported, placed_line, gap_line, report_lines, line_of, text_of, trace_word, line_written, spaced_one, Hold, gaps_of, report_by}
use Rattle.hs_collect.specs.Collected.{is_of, page_pieces}
use Rattle.hs_collect.specs.Views.{Collection}
use Rattle.hs_law_outcome.specs.Reports as reports
use Rattle.hs_report.specs.declared.fates.Fates.{Fates}
use Rattle.hs_report.proofs.Loops.{unreported, gap_lines}

-- two tests one after the other
tests_more : {X : Type 0} (a b : X → Bool) (x : X) (xs : List X) (t : Bool) → a x ≡ t → filter b (filter a xs) ≡ filter (λ y. a y && b y) xs → filter b (filter a (x ∷ xs)) ≡ filter (λ y. a y && b y) (x ∷ xs)
tests_more a b x xs true is rest =
    ap (λ t. filter b (cond t (x ∷ filter a xs) (filter a xs))) is ∙ ap (λ more. cond (b x) (x ∷ more) more) rest
    ∙ ap (λ t. cond (t && b x) (x ∷ filter (λ y. a y && b y) xs) (filter (λ y. a y && b y) xs)) (sym is)
tests_more a b x xs false is rest =
    ap (λ t. filter b (cond t (x ∷ filter a xs) (filter a xs))) is ∙ rest
    ∙ ap (λ t. cond (t && b x) (x ∷ filter (λ y. a y && b y) xs) (filter (λ y. a y && b y) xs)) (sym is)

two_tests : {X : Type 0} (a b : X → Bool) (xs : List X) → filter b (filter a xs) ≡ filter (λ x. a x && b x) xs
two_tests a b [] = refl
two_tests a b (x ∷ xs) = tests_more a b x xs (a x) refl (two_tests a b xs)

-- the gaps are those of the trace's entries whose records were not reported
pub gaps_are : (entries own : List Entry) (trace : TraceId) → own ≡ filter (reports.is_of trace) entries → unreported own ≡ gaps_of entries trace
gaps_are entries own trace is = ap unreported is ∙ two_tests (reports.is_of trace) (λ (entry : Entry). not (is_reported entry.fate)) entries

pub report_written : (version : ℕ) (entries : List Entry) (records : TraceId → List Placed) (trace : TraceId) (own : List Entry) (out o1 o2 o3 o4 o5 : List ℕ) → o1 ≡ out ++ codes "report"
    → o2 ≡ o1 ++ 32 ∷ trace_word version trace → o3 ≡ o2 ++ 10 ∷ [] → o4 ≡ o3 ++ text_of (map placed_line (records trace)) → own ≡ filter (reports.is_of trace) entries → o5 ≡ o4 ++ gap_lines version own
    → o5 ≡ out ++ text_of (report_lines version (report_by entries records trace))
report_written version entries records trace own out o1 o2 o3 o4 o5 e1 e2 e3 e4 is e5 =
    let head = line_of (codes "report" ∷ trace_word version trace ∷ []) ++ 10 ∷ [] in
    let shown = text_of (map placed_line (records trace)) in
    let gaps = text_of (map (gap_line version) (gaps_of entries trace)) in
    e5 ∙ ap (λ t. o4 ++ text_of (map (gap_line version) t)) (gaps_are entries own trace is) ∙ ap (λ t. t ++ gaps) (e4 ∙ ap (λ t. t ++ shown) (line_written out (codes "report") (trace_word version trace ∷ []) o1 o2 o3 e1 (spaced_one o1 o2 (trace_word version trace) e2) e3))
    ∙ ap (λ t. t ++ gaps) (append_assoc out head shown) ∙ append_assoc out (head ++ shown) gaps
    ∙ ap (λ t. out ++ t) (sym (flat_map-append (λ line. line ++ 10 ∷ []) (line_of (codes "report" ∷ trace_word version trace ∷ []) ∷ map placed_line (records trace)) (map (gap_line version) (gaps_of entries trace))))

-- ---- what is shown of a trace

no_wholes : AreWholes [] []
no_wholes = record { ordered = λ i j d before within. absurd (omega arith); each = λ k d within. absurd (omega arith); all = λ k d within. absurd (omega arith) }

-- the records of a trace of which no page was added
pub none_shown : (entries : List Entry) (records : TraceId → List Placed) (fates : Fates) (collector : Collection) (trace : TraceId) → Hold entries records fates collector
    → ((sheets : Sheets) → AreCollected sheets collector → filter (is_of trace) sheets ≡ []) → records trace ≡ []
none_shown entries records fates collector trace hold none =
    let nothing : pieces_of trace hold.sheets ≡ [] = ap (λ t. flat_map page_pieces t) (none hold.sheets hold.collected) in
    sym (hold.show trace [] (subst (λ pieces. AreWholes pieces []) (sym nothing) no_wholes))
