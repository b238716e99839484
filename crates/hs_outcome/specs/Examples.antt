-- Small outcomes: one client, whose trigger comes before the one record of its trace, so that the record is reported; and two nodes that
-- report a trace each, the greater one first.
use Rattle.std.specs.Prelude.{◌≡◌, ℕ, List, [], ◌∷◌, ◌++◌, None, length, map, refl}
use Rattle.std.proofs.Common.{ap, arith}
use Rattle.std.specs.List.{Any}
use Rattle.hs_base.proofs.Alls.{all_one}
use Rattle.hs_base.specs.Listing.{listing}
use Rattle.hs_base.specs.declared.ids.RecordId.{RecordId}
use Rattle.hs_base.specs.declared.ids.TraceId.{TraceId}
use Rattle.hs_base.specs.declared.told.Fate.TheVariants.{Reported}
use Rattle.hs_base.specs.Samples.{t, one_rule}
use Rattle.hs_collect.specs.Collected.{Placed, AreCollected, AreWholes, IsWhole, pieces_of}
use Rattle.hs_collect.specs.Views.{Collection}
use Rattle.hs_records.specs.declared.journal.Draw.TheVariants.{Got}
use Rattle.hs_records.specs.Journals.{PlainJournal}
use Rattle.hs_law_journal.specs.Journals.{of_trigger_first, of_short_of_pins}
use Rattle.hs_law_journal.specs.Lawful.{first_unlawful}
use Rattle.hs_law_journal.specs.Samples.{journal, chunk, trigger, turn, given}
use Rattle.hs_law_journal.specs.Workloads.{trigger_first, short_of_pins}
use Rattle.hs_law_outcome.specs.Outcomes.{outcome_of}
use Rattle.hs_law_outcome.specs.Records.{all_records}
use Rattle.hs_records.specs.Plain.{PlainWorkload}
use Rattle.hs_client.specs.Samples.{settings, on_nodes, workload, fire, segment}
use Rattle.hs_words.specs.Pages.{Sheet}
use Rattle.hs_outcome.specs.declared.outcome.Outcome.{Outcome}
use Rattle.hs_outcome.specs.Outcomes.{IsOutcome}

abbrev the_trace : TraceId
the_trace = record { 0 = 1 }

abbrev the_record : RecordId
the_record = record { client = record { node = 0; number = 0 }; number = 0 }

abbrev the_sheet : Sheet
the_sheet =
    record {
      header = record { trace = the_trace; client = record { node = 0; number = 0 }; page = 0; first = 0 };
      pieces = record { moment = 2; payload = 0xaa ∷ [] } ∷ [];
    }

abbrev the_whole : Placed
the_whole = record { id = the_record; moment = 2; payload = 0xaa ∷ [] }

abbrev of_one_report : Outcome
of_one_report =
    record {
      version = 1;
      journal = record {
        nodes = 1;
        clients = 1;
        draws = listing (listing (Got 0 0 ∷ []) ∷ []);
        logs = listing (listing (trigger ∷ turn ∷ turn ∷ turn ∷ chunk ∷ turn ∷ given 1 ∷ []) ∷ []);
        told = listing (record { 0 = 0 } ∷ []);
      };
      ledger = record {
        entries = listing (record { id = the_record; trace = the_trace; fate = Reported (record { 0 = 1 }) the_trace } ∷ []);
        totals = record { records = 1; live = 0; reported = 1; null = 0; evicted = 0; abandoned = 0 };
      };
      claimed = listing (the_trace ∷ []);
      collector = (the_trace, the_whole ∷ []) ∷ [];
    }

the_records : AreWholes (pieces_of the_trace (the_sheet ∷ [])) (the_whole ∷ [])
the_records =
    record {
      ordered = λ i j d before within. absurd (omega arith);
      each = all_one (IsWhole (pieces_of the_trace (the_sheet ∷ []))) the_whole (record { moment = refl; payload = refl });
      all = all_one (λ (piece : Placed). Any (λ (whole : Placed). whole.id ≡ piece.id) (the_whole ∷ [])) the_whole (0, the_whole, omega arith, refl, refl);
    }

one_report : IsOutcome trigger_first of_trigger_first of_one_report
one_report =
    record {
      version = refl;
      journal = refl;
      entries = refl;
      totals = refl;
      claimed = refl;
      collected = record { seen = refl; each = all_one (λ (entry : TraceId × List Placed). AreWholes (pieces_of entry.0 (the_sheet ∷ [])) entry.1) (the_trace, the_whole ∷ []) the_records };
    }

-- ---- what there is room for

records_counted : (length (all_records trigger_first) ≡ 1) × (length (all_records short_of_pins) ≡ 6)
records_counted = (refl, refl)

-- each of two nodes reported two pages, the one behind the other
pages_counted : map (λ (sheet : Sheet). sheet.header.client.node) (outcome_of short_of_pins of_short_of_pins).reported ≡ 0 ∷ 0 ∷ 1 ∷ 1 ∷ []
pages_counted = refl

-- ---- the order of traces

-- each of two nodes has one trace and triggers it: node 0 the trace 9, and node 1 the trace 7
abbrev nine_and_seven : PlainWorkload
nine_and_seven = workload (on_nodes 2 1 (settings 4 4 8 4 16 one_rule)) ((segment 9 2 ++ fire 3 1 9 ∷ []) ∷ (segment 7 2 ++ fire 3 1 7 ∷ []) ∷ [])

abbrev of_nine_and_seven : PlainJournal
of_nine_and_seven = journal 2 1 ((Got 0 0 ∷ []) ∷ (Got 0 0 ∷ []) ∷ []) ((chunk ∷ trigger ∷ turn ∷ given 1 ∷ []) ∷ (chunk ∷ trigger ∷ turn ∷ given 1 ∷ []) ∷ []) (0 ∷ 1 ∷ [])

nothing_unlawful : first_unlawful nine_and_seven of_nine_and_seven ≡ None
nothing_unlawful = refl

-- what a collector has of them stands in the order of the nodes, and so the greater trace comes first
nine_first : (collector : Collection) → AreCollected (outcome_of nine_and_seven of_nine_and_seven).reported collector → map (λ entry. entry.0) collector ≡ t 9 ∷ t 7 ∷ []
nine_first collector collected = collected.seen

another_order : t 7 ∷ t 9 ∷ [] ≡ t 9 ∷ t 7 ∷ [] → ⊥
another_order same = let numbers : ◌≡◌ {A = List ℕ} (7 ∷ 9 ∷ []) (9 ∷ 7 ∷ []) = ap (map (λ (trace : TraceId). trace.0)) same in absurd cc

not_seven_first : (nine seven : List Placed) → AreCollected (outcome_of nine_and_seven of_nine_and_seven).reported ((t 7, seven) ∷ (t 9, nine) ∷ []) → ⊥
not_seven_first nine seven collected = another_order collected.seen
