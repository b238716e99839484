-- The text of an outcome: the journal, then the reports, then the ledger with a line for each record and the totals, and the line
-- `done`. As JSON the reports are one line, a list with an object for each. A text of version 1 writes traces in 16 digits, and one
-- of version 2 in 32.
use Rattle.std.specs.Prelude.{ℕ, List, [], ◌∷◌, ◌++◌, length, map, codes, decimal}
use Rattle.std.specs.List.{flat_map, join_with_byte}
use Rattle.hs_base.specs.declared.ids.RecordId.{RecordId}
use Rattle.hs_base.specs.declared.told.Fate.{Fate}
use Rattle.hs_base.specs.declared.told.Fate.TheVariants.{Null, Live, Reported, Evicted, Abandoned}
use Rattle.hs_collect.specs.Collected.{Placed}
use Rattle.hs_journal.specs.Grammar.{journal_text}
use Rattle.hs_records.specs.Journals.{PlainJournal}
use Rattle.hs_ledger.specs.declared.ledger.Entry.{Entry}
use Rattle.hs_ledger.specs.declared.ledger.Totals.{Totals}
use Rattle.hs_ledger.specs.Totals.{totals_of}
use Rattle.hs_records.specs.Plain.{PlainWorkload}
use Rattle.hs_text.specs.Text.{line_of, text_of, hex_text, payload_text}
use Rattle.hs_text.specs.Writing.{trace_word}
use Rattle.hs_report.specs.declared.form.Form.{Form}
use Rattle.hs_report.specs.declared.form.Form.TheVariants.{Text, Json}
use Rattle.hs_law_outcome.specs.Outcomes.{PlainOutcome, outcome_of}
use Rattle.hs_law_outcome.specs.Reports.{Report, reports_in}

-- ---- words

-- a fate in a text of this version
abbrev pub fate_words : ℕ → Fate → List (List ℕ)
fate_words version (Null stamp) = codes "null" ∷ decimal stamp ∷ []
fate_words version Live = codes "live" ∷ []
fate_words version (Reported trigger lead) = codes "reported" ∷ decimal trigger.0 ∷ trace_word version lead ∷ []
fate_words version (Evicted chunks traces) = codes "evicted" ∷ decimal chunks ∷ decimal traces ∷ []
fate_words version (Abandoned trigger lead rank) = codes "abandoned" ∷ decimal trigger.0 ∷ trace_word version lead ∷ hex_text 16 rank.word ∷ []

-- a record's node, client and number
abbrev pub id_words : RecordId → List (List ℕ)
id_words id = decimal id.client.node ∷ decimal id.client.number ∷ decimal id.number ∷ []

-- ---- the ledger

-- a record's line
abbrev pub entry_line : ℕ → Entry → List ℕ
entry_line version entry =
    line_of (decimal entry.id.client.node ∷ decimal entry.id.client.number ∷ decimal entry.id.number ∷ trace_word version entry.trace ∷ fate_words version entry.fate)

abbrev pub total_line : Totals → List ℕ
total_line totals =
    line_of (
    codes "total" ∷ decimal totals.records ∷ codes "live" ∷ decimal totals.live ∷ codes "reported" ∷ decimal totals.reported ∷ codes "null" ∷ decimal totals.null
    ∷ codes "evicted" ∷ decimal totals.evicted ∷ codes "abandoned" ∷ decimal totals.abandoned ∷ []
    )

-- the text of a ledger, as it ends an outcome
abbrev pub ledger_text : ℕ → List Entry → Totals → List ℕ
ledger_text version entries totals =
    text_of (line_of (codes "ledger" ∷ decimal (length entries) ∷ []) ∷ map (entry_line version) entries ++ total_line totals ∷ codes "done" ∷ [])

-- ---- the reports as lines

abbrev pub reports_line : List Report → List ℕ
reports_line reports = line_of (codes "reports" ∷ decimal (length reports) ∷ [])

-- a record of a report
abbrev pub placed_line : Placed → List ℕ
placed_line placed = line_of (id_words placed.id ++ decimal placed.moment ∷ payload_text placed.payload ∷ [])

-- a gap of a report
abbrev pub gap_line : ℕ → Entry → List ℕ
gap_line version entry = line_of (codes "gap" ∷ id_words entry.id ++ fate_words version entry.fate)

abbrev pub report_lines : ℕ → Report → List (List ℕ)
report_lines version report =
    line_of (codes "report" ∷ trace_word version report.trace ∷ []) ∷ map placed_line report.records ++ map (gap_line version) report.gaps

-- ---- the reports as JSON

-- a text in quotes, of which none has to be escaped
abbrev pub json_text : List ℕ → List ℕ
json_text text = codes "\"" ++ text ++ codes "\""

abbrev pub json_list : List (List ℕ) → List ℕ
json_list items = codes "[" ++ join_with_byte 44 items ++ codes "]"

abbrev pub json_field : List ℕ → List ℕ → List ℕ
json_field name value = json_text name ++ codes ":" ++ value

abbrev pub json_object : List (List ℕ) → List ℕ
json_object fields = codes "{" ++ join_with_byte 44 fields ++ codes "}"

abbrev pub placed_json : Placed → List ℕ
placed_json placed = json_list (id_words placed.id ++ decimal placed.moment ∷ json_text (payload_text placed.payload) ∷ [])

abbrev pub gap_json : ℕ → Entry → List ℕ
gap_json version entry = json_list (id_words entry.id ++ json_text (line_of (fate_words version entry.fate)) ∷ [])

abbrev pub report_json : ℕ → Report → List ℕ
report_json version report =
    json_object (
    json_field (codes "gaps") (json_list (map (gap_json version) report.gaps)) ∷ json_field (codes "records") (json_list (map placed_json report.records))
    ∷ json_field (codes "trace") (json_text (trace_word version report.trace)) ∷ []
    )

-- ---- the whole

-- the reports, behind the line that counts them
abbrev pub reports_text : ℕ → Form → List Report → List ℕ
reports_text version Text reports = text_of (reports_line reports ∷ flat_map (report_lines version) reports)
reports_text version Json reports = text_of (reports_line reports ∷ json_list (map (report_json version) reports) ∷ [])

-- the text of an outcome of the workload
abbrev pub text_in : PlainWorkload → Form → PlainOutcome → List ℕ
text_in W form outcome =
    journal_text outcome.journal ++ reports_text outcome.version form (reports_in W outcome) ++ ledger_text outcome.version outcome.entries (totals_of outcome.entries)

-- the text that a workload and a journal come to
abbrev pub outcome_text : PlainWorkload → PlainJournal → Form → List ℕ
outcome_text W J form = text_in W form (outcome_of W J)
