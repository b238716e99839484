-- The fates and the reports of small workloads under their lockstep journals.
use Rattle.std.specs.Prelude.{◌≡◌, ℕ, List, [], ◌∷◌, ◌++◌, map, length, None, refl}
use Rattle.hs_base.specs.declared.told.Fate.{Fate}
use Rattle.hs_base.specs.declared.told.Fate.TheVariants.{Null, Live, Reported, Evicted, Abandoned}
use Rattle.hs_base.specs.Samples.{t, one_rule, golden, twice}
use Rattle.hs_collect.specs.Collected.{Placed}
use Rattle.hs_records.specs.declared.journal.Draw.TheVariants.{Got}
use Rattle.hs_records.specs.Journals.{PlainJournal}
use Rattle.hs_ledger.specs.declared.ledger.Entry.{Entry}
use Rattle.hs_records.specs.Plain.{PlainWorkload}
use Rattle.hs_client.specs.Samples.{settings, workload, fire, segment}
use Rattle.hs_law_outcome.specs.Outcomes.{outcome_of, rising_traces}
use Rattle.hs_law_outcome.specs.Reports.{Report, reports_of}
use Rattle.hs_law_journal.specs.Journals
use Rattle.hs_law_journal.specs.Lawful.{first_unlawful}
use Rattle.hs_law_journal.specs.Samples.{alone, chunk, trigger, turn}
use Rattle.hs_law_journal.specs.Workloads.{nothing, one_point, three_points, three_traces, touched_again, trigger_first, evicted_then_claimed, two_ids, one_token, short_of_pins, four_nodes, no_pins, refused_trigger}

abbrev fates : PlainWorkload → PlainJournal → List Fate
fates W J = map (λ (entry : Entry). entry.fate) (outcome_of W J).entries

-- the trigger id 1 reported it for a group of this lead
abbrev reported : ℕ → Fate
reported lead = Reported (record { 0 = 1 }) (t lead)

no_records : (fates nothing Journals.of_nothing ≡ []) × (reports_of nothing Journals.of_nothing ≡ [])
no_records = (refl, refl)

record_lives : fates one_point Journals.of_one_point ≡ Live ∷ []
record_lives = refl

third_finds_the_pool_empty : fates three_points Journals.of_three_points ≡ Live ∷ Live ∷ Null 1 ∷ []
third_finds_the_pool_empty = refl

third_evicts_the_first : fates three_traces Journals.of_three_traces ≡ Evicted 3 3 ∷ Live ∷ Live ∷ []
third_evicts_the_first = refl

second_was_touched_longest_ago : fates touched_again Journals.of_touched_again ≡ Live ∷ Evicted 4 3 ∷ Live ∷ Live ∷ []
second_was_touched_longest_ago = refl

claimed_before_it_came : fates trigger_first Journals.of_trigger_first ≡ reported 1 ∷ []
claimed_before_it_came = refl

-- the evicted record is a gap of the report
report_with_a_gap : (fates evicted_then_claimed Journals.of_evicted_then_claimed ≡ Evicted 1 1 ∷ reported 1 ∷ [])
    × (map (λ (r : Report). map (λ (p : Placed). p.id.number) r.records) (reports_of evicted_then_claimed Journals.of_evicted_then_claimed) ≡ (1 ∷ []) ∷ [])
    × (map (λ (r : Report). map (λ (p : Placed). p.payload) r.records) (reports_of evicted_then_claimed Journals.of_evicted_then_claimed) ≡ ((0xaa ∷ []) ∷ []) ∷ [])
    × (map (λ (r : Report). map (λ (e : Entry). e.fate) r.gaps) (reports_of evicted_then_claimed Journals.of_evicted_then_claimed) ≡ (Evicted 1 1 ∷ []) ∷ [])
report_with_a_gap = (refl, refl, refl, refl)

first_claim_counts : fates two_ids Journals.of_two_ids ≡ reported 1 ∷ []
first_claim_counts = refl

second_stays : fates one_token Journals.of_one_token ≡ reported 1 ∷ Live ∷ reported 3 ∷ []
second_stays = refl

-- both nodes abandon the trace of the least rank
abandoned_on_both : fates short_of_pins Journals.of_short_of_pins
    ≡ reported 0 ∷ reported golden ∷ Abandoned (record { 0 = 1 }) (t twice) (record { word = 0x06c45d188009454f; trace = twice })
    ∷ reported 0 ∷ reported golden ∷ Abandoned (record { 0 = 1 }) (t twice) (record { word = 0x06c45d188009454f; trace = twice }) ∷ []
abandoned_on_both = refl

-- no crumb led to node 3, whose record is a gap that lives
unreached_node : (fates four_nodes Journals.of_four_nodes ≡ reported 1 ∷ reported 1 ∷ reported 1 ∷ Live ∷ [])
    × (map (λ (r : Report). length r.records) (reports_of four_nodes Journals.of_four_nodes) ≡ 3 ∷ [])
    × (map (λ (r : Report). map (λ (e : Entry). e.id.client.node) r.gaps) (reports_of four_nodes Journals.of_four_nodes) ≡ (3 ∷ []) ∷ [])
unreached_node = (refl, refl, refl)

all_abandoned : map (λ (r : Report). length r.gaps) (reports_of no_pins Journals.of_no_pins) ≡ 2 ∷ []
all_abandoned = refl

-- the trace of the trigger that was not admitted has no report
no_report : (fates refused_trigger Journals.of_refused_trigger ≡ reported 1 ∷ Live ∷ []) × (map (λ (r : Report). r.trace) (reports_of refused_trigger Journals.of_refused_trigger) ≡ t 1 ∷ [])
no_report = (refl, refl)

-- a trace that has no record has no report, although a trigger claimed it
abbrev no_record_of_it : PlainWorkload
no_record_of_it = workload (settings 4 4 8 4 16 one_rule) ((segment 1 1 ++ fire 2 1 9 ∷ []) ∷ [])

abbrev of_no_record : PlainJournal
of_no_record = alone (Got 0 0 ∷ []) (chunk ∷ trigger ∷ turn ∷ []) (0 ∷ [])

claimed_without_a_record : (first_unlawful no_record_of_it of_no_record ≡ None) × ((outcome_of no_record_of_it of_no_record).claimed ≡ t 9 ∷ []) × (reports_of no_record_of_it of_no_record ≡ [])
claimed_without_a_record = (refl, refl, refl)

-- a trace that several nodes claimed has one report
claimed_on_three_nodes : (outcome_of four_nodes Journals.of_four_nodes).claimed ≡ t 1 ∷ []
claimed_on_three_nodes = refl

each_trace_once : rising_traces (t 7 ∷ t 2 ∷ t 7 ∷ t 3 ∷ []) ≡ t 2 ∷ t 3 ∷ t 7 ∷ []
each_trace_once = refl
