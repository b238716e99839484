-- The text of an outcome, by its parts.
use Rattle.std.proofs.Common.{◌≡◌, ℕ, List, [], ◌∷◌, ◌++◌, length, map, sym, subst, ap, ◌∙◌, refl, append_assoc}
use Rattle.hs_collect.specs.declared.collector.Collector.{Collector}
use Rattle.hs_ledger.specs.declared.ledger.Ledger.{Ledger}
use Rattle.hs_report.specs.Sources.{Hold}
use Rattle.hs_report.specs.declared.parts.Opened.{Opened}
use Rattle.hs_report.proofs.Prelude.{filter, flat_map, length-map, TraceId, Placed, AreWholes, pieces_of, journal_text, PlainJournal, journal_of, IsLawful, Entry, CollectedRecordsAreWhole, reported_wholes, Text, outcome_of, report_lines, PlainWorkload, text_of, IsValid, Sorted, Outcome, has_entry, kept_of, IsOutcome, AreSorted, count_line, records_by, report_by}
use Rattle.hs_report.specs.declared.form.Form.{Form}
use Rattle.hs_report.specs.OutcomeText.{reports_text, ledger_text, outcome_text}
use Rattle.hs_law_outcome.specs.Reports.{Report, report_of, reports_in}
use Rattle.hs_law_outcome.proofs.Followed.{ends_its_traces}

-- what the collector joined of a trace, as far as it was reported, is what the trace's report shows
pub shown : CollectedRecordsAreWhole → (W : PlainWorkload) (J : PlainJournal) (outcome : Outcome) → IsValid W → IsLawful W J → IsOutcome W J outcome
    → (trace : TraceId) (wholes : List Placed) → AreWholes (pieces_of trace (outcome_of W J).reported) wholes → reported_wholes outcome.ledger.entries.items wholes ≡ records_by W outcome.ledger.entries.items trace
shown whole W J outcome valid lawful is trace wholes all =
    ap (λ entries. reported_wholes entries wholes) is.entries ∙ whole W J (outcome_of W J).reported trace wholes (ends_its_traces W valid) valid.count lawful (λ client of. refl) all
    ∙ ap (λ entries. records_by W entries trace) (sym is.entries)

-- the reports of the traces that were found are those of the workload and the journal
pub reports_are : (W : PlainWorkload) (J : PlainJournal) (outcome : Outcome) (traces : List TraceId) → IsOutcome W J outcome
    → traces ≡ filter (has_entry outcome.ledger.entries.items) outcome.claimed.items
    → map (report_by outcome.ledger.entries.items (records_by W outcome.ledger.entries.items)) traces ≡ reports_in W (outcome_of W J)
reports_are W J outcome traces is found =
    ap (λ ts. map (report_of W outcome.ledger.entries.items) ts) (found ∙ ap (λ ts. filter (has_entry outcome.ledger.entries.items) ts) is.claimed)
    ∙ ap (λ entries. map (report_of W entries) (filter (has_entry entries) (outcome_of W J).claimed)) is.entries

-- the line that counts them, and their lines
pub counted_lines : (version : ℕ) (entries : List Entry) (records : TraceId → List Placed) (traces : List TraceId)
    → (count_line (length traces) ++ 10 ∷ []) ++ text_of (flat_map (report_lines version) (map (report_by entries records) traces)) ≡ reports_text version Text (map (report_by entries records) traces)
counted_lines version entries records traces =
    ap (λ n. (count_line n ++ 10 ∷ []) ++ text_of (flat_map (report_lines version) (map (report_by entries records) traces))) (sym (length-map traces (report_by entries records)))

-- the journal, the line that counts the reports, the reports and the ledger are the whole text
pub text_joined : (W : PlainWorkload) (J : PlainJournal) (outcome : Outcome) (form : Form) (count : ℕ) (reports : List Report) (o1 o2 o3 body : List ℕ) → IsOutcome W J outcome → reports ≡ reports_in W (outcome_of W J)
    → o1 ≡ journal_text (journal_of outcome.journal) ++ (count_line count ++ 10 ∷ []) → o2 ≡ o1 ++ body
    → (count_line count ++ 10 ∷ []) ++ body ≡ reports_text outcome.version form reports
    → o3 ≡ o2 ++ ledger_text outcome.version outcome.ledger.entries.items outcome.ledger.totals → o3 ≡ outcome_text W J form
text_joined W J outcome form count reports o1 o2 o3 body is are e1 e2 whole e3 =
    let o = outcome_of W J in
    let head = count_line count ++ 10 ∷ [] in
    let all = whole ∙ ap (λ rs. reports_text outcome.version form rs) are ∙ ap (λ v. reports_text v form (reports_in W o)) is.version in
    let ledger = ap (λ v. ledger_text v outcome.ledger.entries.items outcome.ledger.totals) is.version ∙ ap (λ es. ledger_text W.version es outcome.ledger.totals) is.entries ∙ ap (λ ts. ledger_text W.version o.entries ts) is.totals in
    let front = e2 ∙ ap (λ t. t ++ body) (e1 ∙ ap (λ j. journal_text j ++ head) is.journal) ∙ append_assoc (journal_text J) head body ∙ ap (λ t. journal_text J ++ t) all in
    e3 ∙ ap (λ t. t ++ ledger_text outcome.version outcome.ledger.entries.items outcome.ledger.totals) front ∙ ap (λ t. (journal_text J ++ reports_text W.version form (reports_in W o)) ++ t) ledger

pub text_written : (W : PlainWorkload) (J : PlainJournal) (outcome : Outcome) (form : Form) (sorted : Sorted) (o1 o2 o3 body : List ℕ) → IsOutcome W J outcome → AreSorted W J outcome sorted
    → o1 ≡ journal_text (journal_of outcome.journal) ++ (count_line (length sorted.traces.items) ++ 10 ∷ []) → o2 ≡ o1 ++ body
    → (count_line (length sorted.traces.items) ++ 10 ∷ []) ++ body
    ≡ reports_text outcome.version form (map (report_by (kept_of outcome) (records_by W outcome.ledger.entries.items)) sorted.traces.items)
    → o3 ≡ o2 ++ ledger_text outcome.version outcome.ledger.entries.items outcome.ledger.totals → o3 ≡ outcome_text W J form
text_written W J outcome form sorted o1 o2 o3 body is are e1 e2 whole e3 =
    text_joined W J outcome form (length sorted.traces.items) (map (report_by (kept_of outcome) (records_by W outcome.ledger.entries.items)) sorted.traces.items) o1 o2 o3 body is are.reports e1 e2 whole e3

-- the text of the journal and the text of all behind it are the whole text
pub parts_written : (W : PlainWorkload) (J : PlainJournal) (outcome : Outcome) (form : Form) (sorted : Sorted) (journal behind body : List ℕ) → IsOutcome W J outcome → AreSorted W J outcome sorted
    → journal ≡ journal_text (journal_of outcome.journal)
    → behind ≡ ((count_line (length sorted.traces.items) ++ 10 ∷ []) ++ body) ++ ledger_text outcome.version outcome.ledger.entries.items outcome.ledger.totals
    → (count_line (length sorted.traces.items) ++ 10 ∷ []) ++ body
    ≡ reports_text outcome.version form (map (report_by (kept_of outcome) (records_by W outcome.ledger.entries.items)) sorted.traces.items)
    → journal ++ behind ≡ outcome_text W J form
parts_written W J outcome form sorted journal behind body is are e1 e2 whole =
    let head = count_line (length sorted.traces.items) ++ 10 ∷ [] in
    let ledger = ledger_text outcome.version outcome.ledger.entries.items outcome.ledger.totals in
    let joined : journal ++ behind ≡ ((journal ++ head) ++ body) ++ ledger =
    ap (λ t. journal ++ t) e2 ∙ sym (append_assoc journal (head ++ body) ledger) ∙ ap (λ t. t ++ ledger) (sym (append_assoc journal head body)) in
    text_written W J outcome form sorted (journal ++ head) ((journal ++ head) ++ body) (journal ++ behind) body is are (ap (λ t. t ++ head) e1) refl whole joined

-- an outcome whose journal is a text already, and the text of all behind it
pub opened_written : (W : PlainWorkload) (J : PlainJournal) (outcome : Outcome) (form : Form) (opened : Opened) (behind body : List ℕ) → IsOutcome W J outcome
    → AreSorted W J outcome opened.behind.sorted → opened.journal.items ≡ journal_text (journal_of outcome.journal)
    → opened.behind.version ≡ outcome.version → opened.behind.ledger ≡ outcome.ledger → opened.behind.collector ≡ outcome.collector
    → (Hold (kept_of outcome) (records_by W outcome.ledger.entries.items) opened.behind.sorted.fates opened.behind.collector
    → behind ≡ ((count_line (length opened.behind.sorted.traces.items) ++ 10 ∷ []) ++ body) ++ ledger_text opened.behind.version opened.behind.ledger.entries.items opened.behind.ledger.totals)
    → (count_line (length opened.behind.sorted.traces.items) ++ 10 ∷ []) ++ body
    ≡ reports_text opened.behind.version form (map (report_by (kept_of outcome) (records_by W outcome.ledger.entries.items)) opened.behind.sorted.traces.items)
    → opened.journal.items ++ behind ≡ outcome_text W J form
opened_written W J outcome form opened behind body is are journal version ledger collector told counted =
    let sorted = opened.behind.sorted in
    let kept = kept_of outcome in
    let records = records_by W outcome.ledger.entries.items in
    let head = (count_line (length sorted.traces.items) ++ 10 ∷ []) ++ body in
    let all = told (subst (λ (collector : Collector). Hold kept records sorted.fates collector) (sym collector) are.hold) in
    let behind_is = all ∙ ap (λ v. head ++ ledger_text v opened.behind.ledger.entries.items opened.behind.ledger.totals) version
    ∙ ap (λ (l : Ledger). head ++ ledger_text outcome.version l.entries.items l.totals) ledger in
    let counted_is = counted ∙ ap (λ v. reports_text v form (map (report_by kept records) sorted.traces.items)) version in
    parts_written W J outcome form sorted opened.journal.items behind body is are journal behind_is counted_is
