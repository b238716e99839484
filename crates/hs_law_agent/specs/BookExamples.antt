-- Whole books of short runs.
use Rattle.std.specs.Prelude.{◌≡◌, [], ◌∷◌, refl}
use Rattle.hs_base.specs.declared.told.Fate.TheVariants as fates
use Rattle.hs_base.specs.Samples.{one_rule, t}
use Rattle.hs_records.specs.declared.journal.Step.TheVariants as steps
use Rattle.hs_words.specs.Pages.{Sheet, page_bytes}
use Rattle.hs_law_agent.specs.Standings.{sample_sheet}
use Rattle.hs_law_agent.specs.Stepping.{Took, Chunk, after}
use Rattle.hs_law_agent.specs.Books.{book_of}
use Rattle.hs_law_agent.specs.Samples.{settings_with, chunk, trigger, group, turned, given}

-- a page with two records, at the threshold
two_records : Sheet
two_records =
    record {
      header = record { trace = t 1; client = record { node = 0; number = 0 }; page = 0; first = 0 };
      pieces = record { moment = 100; payload = 7 ∷ [] } ∷ record { moment = 101; payload = 8 ∷ [] } ∷ [];
    }

a_live_page : book_of 0 (after (settings_with 1 4 4 []) 0 (Took (Chunk 0 two_records) ∷ turned ∷ []))
    ≡ record {
      node = record { 0 = 0 };
      log = steps.Chunk 0 ∷ steps.Turn ∷ [];
      standings = record { client = record { node = 0; number = 0 }; page = 0; fate = fates.Live } ∷ [];
      claims = [];
      sent = [];
    }
unfolding two_records
a_live_page = refl

-- a page that is evicted, and one that is reported for the trigger between them
evicted_and_reported : book_of 0 (after (settings_with 0 8 4 one_rule) 0 (chunk 1 0 ∷ turned ∷ given 1 ∷ trigger 2 1 1 [] ∷ turned ∷ chunk 1 1 ∷ turned ∷ given 3 ∷ []))
    ≡ record {
      node = record { 0 = 0 };
      log = steps.Chunk 0 ∷ steps.Turn ∷ steps.Given 1 ∷ steps.Trigger 0 ∷ steps.Turn ∷ steps.Chunk 0 ∷ steps.Turn ∷ steps.Given 3 ∷ [];
      standings =
          record { client = record { node = 0; number = 0 }; page = 0; fate = fates.Evicted 1 1 }
          ∷ record { client = record { node = 0; number = 0 }; page = 1; fate = fates.Reported (record { 0 = 1 }) (t 1) } ∷ [];
      claims = record { trace = t 1; group = group 0 0 1 1 } ∷ [];
      sent = page_bytes (sample_sheet 0 0 1 1) ∷ [];
    }
evicted_and_reported = refl

-- a trigger alone leaves a claim, and nothing else
a_trigger_alone : book_of 0 (after (settings_with 4 8 4 one_rule) 0 (trigger 1 1 1 [] ∷ turned ∷ []))
    ≡ record {
      node = record { 0 = 0 };
      log = steps.Trigger 0 ∷ steps.Turn ∷ [];
      standings = [];
      claims = record { trace = t 1; group = group 0 0 1 1 } ∷ [];
      sent = [];
    }
a_trigger_alone = refl
