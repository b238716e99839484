-- What the loops over entries, records and traces append: each is a function of lists that joins.
use Rattle.std.proofs.Common.{◌≡◌, ◌+◌, ℕ, not, List, [], ◌∷◌, ◌++◌, map, sym, ap, ◌∙◌, append-nil}
use Rattle.hs_report.proofs.Prelude.{filter, flat_map, map-append, flat_map-append, filter-append, TraceId, Placed, placed_of, Entry, is_reported, reported_wholes, was_reported, placed_line, gap_line, report_lines, text_of, report_by}
use Rattle.hs_collect.specs.declared.records.TraceRecord.{TraceRecord}
use Rattle.hs_base.proofs.Loops.{Joins}

-- ---- what the loops append

abbrev pub record_lines : List Entry → List TraceRecord → List ℕ
record_lines entries records = text_of (map placed_line (reported_wholes entries (map placed_of records)))

abbrev pub unreported : List Entry → List Entry
unreported entries = filter (λ (entry : Entry). not (is_reported entry.fate)) entries

abbrev pub gap_lines : ℕ → List Entry → List ℕ
gap_lines version entries = text_of (map (gap_line version) (unreported entries))

abbrev pub trace_lines : ℕ → List Entry → (TraceId → List Placed) → List TraceId → List ℕ
trace_lines version entries records traces = text_of (flat_map (report_lines version) (map (report_by entries records) traces))

-- ---- they join

pub shown_joins : (entries : List Entry) (xs ys : List TraceRecord)
    → reported_wholes entries (map placed_of (xs ++ ys)) ≡ reported_wholes entries (map placed_of xs) ++ reported_wholes entries (map placed_of ys)
shown_joins entries xs ys =
    ap (λ t. reported_wholes entries t) (map-append placed_of xs ys) ∙ filter-append (λ (whole : Placed). was_reported entries whole.id) (map placed_of xs) (map placed_of ys)

lines_join : {X : Type 0} (line : X → List ℕ) (xs ys : List X) → text_of (map line (xs ++ ys)) ≡ text_of (map line xs) ++ text_of (map line ys)
lines_join line xs ys = ap text_of (map-append line xs ys) ∙ flat_map-append (λ line. line ++ 10 ∷ []) (map line xs) (map line ys)

pub record_lines_join : (entries : List Entry) → Joins (record_lines entries)
record_lines_join entries xs ys =
    ap (λ t. text_of (map placed_line t)) (shown_joins entries xs ys) ∙ lines_join placed_line (reported_wholes entries (map placed_of xs)) (reported_wholes entries (map placed_of ys))

pub unreported_join : (xs ys : List Entry) → unreported (xs ++ ys) ≡ unreported xs ++ unreported ys
unreported_join xs ys = filter-append (λ (entry : Entry). not (is_reported entry.fate)) xs ys

pub gap_lines_join : (version : ℕ) → Joins (gap_lines version)
gap_lines_join version xs ys = ap (λ t. text_of (map (gap_line version) t)) (unreported_join xs ys) ∙ lines_join (gap_line version) (unreported xs) (unreported ys)

pub trace_lines_join : (version : ℕ) (entries : List Entry) (records : TraceId → List Placed) → Joins (trace_lines version entries records)
trace_lines_join version entries records xs ys =
    ap (λ t. text_of (flat_map (report_lines version) t)) (map-append (report_by entries records) xs ys)
    ∙ ap text_of (flat_map-append (report_lines version) (map (report_by entries records) xs) (map (report_by entries records) ys))
    ∙ flat_map-append (λ line. line ++ 10 ∷ []) (flat_map (report_lines version) (map (report_by entries records) xs)) (flat_map (report_lines version) (map (report_by entries records) ys))

-- the lines of one trace
pub one_report : (version : ℕ) (entries : List Entry) (records : TraceId → List Placed) (trace : TraceId) (now next : List ℕ) → next ≡ now ++ text_of (report_lines version (report_by entries records trace))
    → next ≡ now ++ trace_lines version entries records (trace ∷ [])
one_report version entries records trace now next is = is ∙ ap (λ t. now ++ text_of t) (sym (append-nil (report_lines version (report_by entries records trace))))
