-- The whole outputs of small workloads under their lockstep journals, and the JSON of a report.
use Rattle.std.specs.Prelude.{◌≡◌, ℕ, [], ◌∷◌, ◌++◌, map, codes, refl}
use Rattle.std.specs.Fmt.{digits}
use Rattle.hex.specs.Hex.{encode_with}
use Rattle.hs_base.specs.declared.told.Fate.{Fate}
use Rattle.hs_base.specs.declared.told.Fate.TheVariants.{Null, Live, Reported, Evicted, Abandoned}
use Rattle.hs_base.specs.Samples.{one_rule}
use Rattle.hs_ledger.specs.declared.ledger.Entry.{Entry}
use Rattle.hs_ledger.specs.Totals.{totals_of}
use Rattle.hs_records.specs.Plain.{Point, End, PlainWorkload}
use Rattle.hs_client.specs.Samples.{settings, workload, begin, fire, segment}
use Rattle.hs_text.specs.Text.{text_of}
use Rattle.hs_report.specs.declared.form.Form.TheVariants.{Text, Json}
use Rattle.hs_report.specs.OutcomeText.{entry_line, gap_line, total_line, report_lines, json_list, reports_text, outcome_text}
use Rattle.hs_law_outcome.specs.Outcomes.{outcome_of}
use Rattle.hs_law_outcome.specs.Reports.{reports_of}
use Rattle.hs_law_journal.specs.Journals
use Rattle.hs_law_journal.specs.Workloads.{nothing, three_points, short_of_pins, four_nodes}
use Rattle.hs_law_journal.specs.Journals.{of_trigger_first}
use Rattle.hs_journal.specs.Grammar.{journal_lines}

no_operations : outcome_text nothing Journals.of_nothing Text
    ≡ text_of (
    codes "journal 1 1 1" ∷ codes "draws 0 0" ∷ codes "log 0" ∷ codes "coordinator" ∷ codes "end" ∷ codes "reports 0" ∷ codes "ledger 0"
    ∷ codes "total 0 live 0 reported 0 null 0 evicted 0 abandoned 0" ∷ codes "done" ∷ []
    )
unfolding digits
no_operations = refl

third_finds_the_pool_empty : outcome_text three_points Journals.of_three_points Text
    ≡ text_of (
    codes "journal 1 1 1" ∷ codes "draws 0 0" ∷ codes "got 0 0" ∷ codes "empty 1" ∷ codes "log 0" ∷ codes "chunk 0" ∷ codes "turn" ∷ codes "coordinator" ∷ codes "end"
    ∷ codes "reports 0" ∷ codes "ledger 3" ∷ codes "0 0 0 0000000000000001 live" ∷ codes "0 0 1 0000000000000001 live" ∷ codes "0 0 2 0000000000000001 null 1"
    ∷ codes "total 3 live 2 reported 0 null 1 evicted 0 abandoned 0" ∷ codes "done" ∷ []
    )
unfolding digits
third_finds_the_pool_empty = refl

no_reports_as_json : json_list [] ≡ codes "[]"
no_reports_as_json = refl

-- a trace that is evicted, claimed, and comes again with another byte
abbrev again : PlainWorkload
again = workload (settings 1 0 8 4 1 one_rule) ((segment 1 1 ++ fire 2 1 1 ∷ begin 1 ∷ Point 3 (0xbb ∷ []) ∷ End ∷ []) ∷ [])

report_with_a_gap : outcome_text again Journals.of_evicted_then_claimed Text
    ≡ text_of (
    codes "journal 1 1 1" ∷ codes "draws 0 0" ∷ codes "got 0 0" ∷ codes "got 0 2" ∷ codes "log 0" ∷ codes "turn" ∷ codes "turn" ∷ codes "chunk 0" ∷ codes "turn"
    ∷ codes "given 1" ∷ codes "trigger 0" ∷ codes "turn" ∷ codes "turn" ∷ codes "turn" ∷ codes "chunk 0" ∷ codes "turn" ∷ codes "given 3" ∷ codes "coordinator"
    ∷ codes "told 0" ∷ codes "end" ∷ codes "reports 1" ∷ codes "report 0000000000000001" ∷ codes "0 0 1 3 bb" ∷ codes "gap 0 0 0 evicted 1 1" ∷ codes "ledger 2"
    ∷ codes "0 0 0 0000000000000001 evicted 1 1" ∷ codes "0 0 1 0000000000000001 reported 1 0000000000000001"
    ∷ codes "total 2 live 0 reported 1 null 0 evicted 1 abandoned 0" ∷ codes "done" ∷ []
    )
unfolding digits encode_with
report_with_a_gap = refl

-- the same report as JSON
report_as_json : reports_text 1 Json (reports_of again Journals.of_evicted_then_claimed)
    ≡ text_of (codes "reports 1" ∷ codes "[{\"gaps\":[[0,0,0,\"evicted 1 1\"]],\"records\":[[0,0,1,3,\"bb\"]],\"trace\":\"0000000000000001\"}]" ∷ [])
unfolding digits encode_with
report_as_json = refl

-- three nodes that crumbs led to, and one that they did not
unreached_node : map (report_lines 1) (reports_of four_nodes Journals.of_four_nodes)
    ≡ (codes "report 0000000000000001" ∷ codes "0 0 0 1 aa" ∷ codes "1 0 0 2 aa" ∷ codes "2 0 0 3 aa" ∷ codes "gap 3 0 0 live" ∷ []) ∷ []
unfolding digits encode_with
unreached_node = refl

-- the trace whose rank is least is abandoned on both nodes
abandoned_on_both : (map (entry_line 1) (outcome_of short_of_pins Journals.of_short_of_pins).entries
    ≡ codes "0 0 0 0000000000000000 reported 1 0000000000000000" ∷ codes "0 0 1 9e3779b97f4a7c15 reported 1 9e3779b97f4a7c15"
    ∷ codes "0 0 2 3c6ef372fe94f82a abandoned 1 3c6ef372fe94f82a 06c45d188009454f" ∷ codes "1 0 0 0000000000000000 reported 1 0000000000000000"
    ∷ codes "1 0 1 9e3779b97f4a7c15 reported 1 9e3779b97f4a7c15" ∷ codes "1 0 2 3c6ef372fe94f82a abandoned 1 3c6ef372fe94f82a 06c45d188009454f" ∷ [])
    × (total_line (totals_of (outcome_of short_of_pins Journals.of_short_of_pins).entries) ≡ codes "total 6 live 0 reported 4 null 0 evicted 0 abandoned 2")
unfolding digits
abandoned_on_both = (refl, refl)

-- ---- lines

abbrev record_in : (node client number trace : ℕ) → Fate → Entry
record_in node client number trace fate = record { id = record { client = record { node = node; number = client }; number = number }; trace = record { 0 = trace }; fate = fate }

line_of_each_version : (entry_line 1 (record_in 0 0 2 175 (Null 1)) ≡ codes "0 0 2 00000000000000af null 1")
    × (entry_line 2 (record_in 0 0 2 175 (Null 1)) ≡ codes "0 0 2 000000000000000000000000000000af null 1")
unfolding digits
line_of_each_version = (refl, refl)

line_of_each_fate : (entry_line 1 (record_in 3 15 10 1 Live) ≡ codes "3 15 10 0000000000000001 live")
    × (entry_line 1 (record_in 0 0 0 1 (Reported (record { 0 = 64 }) (record { 0 = 2 }))) ≡ codes "0 0 0 0000000000000001 reported 64 0000000000000002")
    × (entry_line 1 (record_in 0 0 0 1 (Evicted 3 4)) ≡ codes "0 0 0 0000000000000001 evicted 3 4")
    × (entry_line 2 (record_in 0 0 0 1 (Abandoned (record { 0 = 7 }) (record { 0 = 2 }) (record { word = 255; trace = 2 })))
    ≡ codes "0 0 0 00000000000000000000000000000001 abandoned 7 00000000000000000000000000000002 00000000000000ff")
unfolding digits
line_of_each_fate = (refl, refl, refl, refl)

line_of_a_gap_in_each_version : (gap_line 1 (record_in 0 0 0 1 (Abandoned (record { 0 = 7 }) (record { 0 = 2 }) (record { word = 255; trace = 2 })))
    ≡ codes "gap 0 0 0 abandoned 7 0000000000000002 00000000000000ff")
    × (gap_line 2 (record_in 0 0 0 1 (Abandoned (record { 0 = 7 }) (record { 0 = 2 }) (record { word = 255; trace = 2 })))
    ≡ codes "gap 0 0 0 abandoned 7 00000000000000000000000000000002 00000000000000ff")
unfolding digits
line_of_a_gap_in_each_version = (refl, refl)

-- the journal of one report, which stands before it
text_of_the_journal : journal_lines of_trigger_first
    ≡ codes "journal 1 1 1" ∷ codes "draws 0 0" ∷ codes "got 0 0" ∷ codes "log 0" ∷ codes "trigger 0" ∷ codes "turn" ∷ codes "turn" ∷ codes "turn" ∷ codes "chunk 0"
    ∷ codes "turn" ∷ codes "given 1" ∷ codes "coordinator" ∷ codes "told 0" ∷ codes "end" ∷ []
unfolding digits
text_of_the_journal = refl
