-- A small run with an offer that is unread. Its pool has two buffers, and no chunk may stay indexed. The first client gets one buffer, the
-- second client the other, and then the first finds the pool empty three times. Meanwhile the agent takes the first chunk and gives it back:
-- it misses three times, once for each void number, and the fourth offer comes round to the entry of the second client, which has not
-- collected its chunk. In the next pass both are given.
use Rattle.std.specs.Prelude.{◌≡◌, ℕ, List, [], ◌∷◌, ◌++◌, replicate, None, refl}
use Rattle.hs_records.specs.declared.journal.Draw.TheVariants as draws
use Rattle.hs_records.specs.declared.journal.Step.TheVariants as steps
use Rattle.hs_records.specs.Journals.{PlainJournal}
use Rattle.hs_law_agent.specs.Stepping.{Chunk, Turn as Turned, Given, Missed, Unread, AgentEvent, Took, Gave}
use Rattle.hs_records.specs.Plain.{Point, End, PlainWorkload}
use Rattle.hs_client.specs.Samples.{settings, on_nodes, workload, begin, segment}
use Rattle.hs_words.specs.Pages.{Sheet}
use Rattle.hs_law_journal.specs.Lawful.{first_unlawful}
use Rattle.hs_law_journal.specs.Doings.{NodeDoings, Doings, journal_of}
use Rattle.hs_base.specs.Samples.{t}

abbrev W : PlainWorkload
W =
    workload (on_nodes 1 2 (settings 2 0 8 4 16 []))
    ((begin 1 ∷ Point 1 (replicate 30 7) ∷ Point 2 (replicate 30 7) ∷ Point 3 (replicate 30 7) ∷ Point 4 (replicate 30 7) ∷ End ∷ []) ∷ segment 2 5 ∷ [])

abbrev page_of : (client trace moment : ℕ) → List ℕ → Sheet
page_of client trace moment payload =
    record {
      header = record { trace = t trace; client = record { node = 0; number = client }; page = 0; first = 0 };
      pieces = record { moment = moment; payload = payload } ∷ [];
    }

abbrev before : List AgentEvent
before = Took (Chunk 0 (page_of 0 1 1 (replicate 30 7))) ∷ Took Turned ∷ Gave (Missed 5) ∷ Gave (Missed 6) ∷ Gave (Missed 7) ∷ []

abbrev second_pass : List AgentEvent
second_pass = Took (Chunk 1 (page_of 1 2 5 (0xaa ∷ []))) ∷ Took Turned ∷ Gave (Given 8) ∷ Gave (Given 9) ∷ []

abbrev n : NodeDoings
n = record { node = 0; passes = (before ++ Gave Unread ∷ []) ∷ second_pass ∷ [] }

abbrev d : Doings
d =
    record {
      draws = (draws.Got 0 0 ∷ draws.Empty 2 ∷ draws.Empty 3 ∷ draws.Empty 4 ∷ []) ∷ (draws.Got 1 1 ∷ []) ∷ [];
      nodes = n ∷ [];
      heard = [] ∷ [] ∷ [];
    }

abbrev J : PlainJournal
J = journal_of W d

its_log : J.logs ≡ (steps.Chunk 0 ∷ steps.Turn ∷ steps.Missed 5 ∷ steps.Missed 6 ∷ steps.Missed 7 ∷ steps.Unread ∷ steps.Chunk 1 ∷ steps.Turn ∷ steps.Given 8 ∷ steps.Given 9 ∷ []) ∷ []
its_log = refl

-- and its journal is lawful
is_lawful : first_unlawful W J ≡ None
is_lawful = refl
