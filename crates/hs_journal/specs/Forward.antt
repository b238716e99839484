-- What is read so far of a journal's text, a line at a time, and what the next line makes of it or why it is refused. The
-- reader's own functions are stated by these. That they agree with the look back over the earlier lines is proved apart.
use Rattle.std.specs.Prelude.{◌≡◌, ℕ, ◌*◌, ◌==◌, ◌<◌, ◌≤◌, Bool, true, false, not, List, [], ◌∷◌, ◌++◌, length, map, Result, Ok, Err, ⊤, codes, refl}
use Rattle.hs_text.specs.Text.{number_of}
use Rattle.hs_text.specs.Steps.{◌>>=◌, unless, value_or}
use Rattle.hs_text.specs.Spelling.{spelled}
use Rattle.hs_text.specs.Opening.{opened}
use Rattle.hs_base.specs.declared.limits.TheConstants.{MAX_NODES, MAX_CLIENTS}
use Rattle.hs_base.specs.declared.ids.NodeId.{NodeId}
use Rattle.hs_records.specs.declared.journal.Draw.{Draw}
use Rattle.hs_records.specs.declared.journal.Draw.TheVariants as draws
use Rattle.hs_records.specs.declared.journal.Step.{Step}
use Rattle.hs_records.specs.declared.journal.Step.TheVariants as steps
use Rattle.hs_journal.specs.declared.refusal.JournalReason.{JournalReason}
use Rattle.hs_journal.specs.declared.refusal.JournalReason.TheVariants as reasons
use Rattle.hs_journal.specs.declared.word.Keyword.{Keyword}
use Rattle.hs_journal.specs.declared.word.Keyword.TheVariants as keywords
use Rattle.hs_journal.specs.declared.part.JournalPart.{JournalPart}
use Rattle.hs_journal.specs.declared.part.JournalPart.TheVariants as places
use Rattle.hs_journal.specs.declared.line.Numbers.{Numbers}
use Rattle.hs_journal.specs.declared.reader.Reader.{Reader}
use Rattle.hs_records.specs.Journals.{PlainJournal}
use Rattle.hs_journal.specs.Statements.{number_count, keyword_of}
use Rattle.hs_journal.specs.LookBack.{Past}
use Rattle.hs_journal.specs.Faults.{is_in_draws, is_in_logs, may_stand, is_out_of_range, is_out_of_order, before_words}

-- ---- numbers

-- the number that the next word is, and the words behind it; 0 where no word is left
abbrev pub next_number : List (List ℕ) → Result (ℕ × List (List ℕ)) JournalReason
next_number [] = Ok (0, [])
next_number (word ∷ words) = value_or reasons.Number (number_of word) >>= λ n. Ok (n, words)

unfoldable pub three_numbers : List (List ℕ) → Result Numbers JournalReason
three_numbers words = do
  first ← next_number words
  second ← next_number first.1
  third ← next_number second.1
  Ok (record { first = first.0; second = second.0; third = third.0 })

-- ---- what is read so far

-- the lists of draws and the logs include the last one, which goes on
pub record Draft : Type 0 where
  pub place : JournalPart
  pub nodes : ℕ
  pub clients : ℕ
  pub draws : List (List Draw)
  pub logs : List (List Step)
  pub told : List NodeId

-- before the first line
abbrev pub fresh : Draft
fresh = record { place = places.Start; nodes = 0; clients = 0; draws = []; logs = []; told = [] }

-- the lists with one that goes on
abbrev pub with_current : {A : Type 0} → Bool → List A → A → List A
with_current true finished current = finished ++ current ∷ []
with_current false finished current = finished

-- a reader's draft
abbrev pub draft_of : Reader → Draft
draft_of r =
    record {
      place = r.place;
      nodes = r.nodes;
      clients = r.clients;
      draws = with_current (is_in_draws r.place) (map (λ drawn. drawn.items) r.draws.items) r.current_draws.items;
      logs = with_current (is_in_logs r.place) (map (λ log. log.items) r.logs.items) r.current_log.items;
      told = r.told.items;
    }

-- what the faults ask of it
abbrev pub past_of : Draft → Past
past_of d = record { place = d.place; nodes = d.nodes; clients = d.clients; draws = length d.draws; logs = length d.logs }

-- the last list with one more item
abbrev pub onto_last : {A : Type 0} → List (List A) → A → List (List A)
onto_last [] x = []
onto_last (xs ∷ []) x = (xs ++ x ∷ []) ∷ []
onto_last (xs ∷ ys ∷ more) x = xs ∷ onto_last (ys ∷ more) x

abbrev pub with_draw : Draft → Draw → Draft
with_draw d draw = record d { draws = onto_last d.draws draw }

abbrev pub with_step : Draft → Step → Draft
with_step d step = record d { logs = onto_last d.logs step }

-- the draft at a place, with a list begun where lists stand there
abbrev pub entered : Draft → JournalPart → Draft
entered d place =
    record d { place = place; draws = with_current (is_in_draws place) d.draws []; logs = with_current (is_in_logs place) d.logs [] }

-- the draft after a line of this word and these numbers
abbrev pub after : Draft → Keyword → Numbers → Draft
after d keywords.Journal n = record d { place = places.Head; nodes = n.second; clients = n.third }
after d keywords.Draws n = record d { place = places.Draws; draws = d.draws ++ [] ∷ [] }
after d keywords.Got n = with_draw d (draws.Got n.first n.second)
after d keywords.Empty n = with_draw d (draws.Empty n.first)
after d keywords.Log n = record d { place = places.Logs; logs = d.logs ++ [] ∷ [] }
after d keywords.Chunk n = with_step d (steps.Chunk n.first)
after d keywords.Crumb n = with_step d (steps.Crumb n.first)
after d keywords.Trigger n = with_step d (steps.Trigger n.first)
after d keywords.Ask n = with_step d steps.Ask
after d keywords.Turn n = with_step d steps.Turn
after d keywords.Given n = with_step d (steps.Given n.first)
after d keywords.Missed n = with_step d (steps.Missed n.first)
after d keywords.Unread n = with_step d steps.Unread
after d keywords.Coordinator n = record d { place = places.Order }
after d keywords.Told n = record d { told = d.told ++ record { 0 = n.first } ∷ [] }
after d keywords.End n = record d { place = places.Ended }

-- ---- what the next line makes of it

abbrev pub statement_step : Draft → Keyword → Numbers → Result Draft JournalReason
statement_step d keyword n =
    unless (is_out_of_range (past_of d) keyword n) reasons.Range (unless (is_out_of_order (past_of d) keyword n) reasons.Order (Ok (after d keyword n)))

abbrev pub keyword_step : Draft → Keyword → List (List ℕ) → Result Draft JournalReason
keyword_step d keyword words =
    unless (not (may_stand (past_of d) keyword)) reasons.Word
    (unless (not (length words == number_count keyword)) reasons.Count (three_numbers words >>= statement_step d keyword))

unfoldable pub line_step : Draft → List ℕ → Result Draft JournalReason
line_step d line = opened before_words keyword_of line >>= λ found. keyword_step d found.0 found.1

-- the journal of a draft whose text has ended
abbrev pub journal_drafted : Draft → PlainJournal
journal_drafted d = record { nodes = d.nodes; clients = d.clients; draws = d.draws; logs = d.logs; told = d.told }

-- at each place but the first, there is a client
abbrev pub HasClients : JournalPart → ℕ → Type 0
HasClients places.Start clients = ⊤
HasClients _ clients = 0 < clients

-- what bounds the numbers of a draft whose lines had no fault
pub record IsSound (d : Draft) : Type 0 where
  pub nodes : d.nodes ≤ MAX_NODES
  pub clients : d.clients ≤ MAX_CLIENTS
  pub some : HasClients d.place d.clients
  pub draws : length d.draws ≤ MAX_NODES * MAX_CLIENTS
  pub logs : length d.logs ≤ MAX_NODES

-- worked examples
numbers_taken : (three_numbers (codes "7" ∷ codes "8" ∷ []) ≡ Ok (record { first = 7; second = 8; third = 0 })) × (three_numbers (codes "7" ∷ codes "x" ∷ []) ≡ Err reasons.Number)
unfolding three_numbers
numbers_taken = (refl, refl)

abbrev two_clients : Draft
two_clients = record { place = places.Head; nodes = 1; clients = 2; draws = []; logs = []; told = [] }

head_taken : line_step fresh (codes "journal 1 1 2") ≡ Ok two_clients
unfolding line_step three_numbers opened spelled
head_taken = refl

draws_taken : ((line_step two_clients (codes "draws 0 0") >>= λ d. line_step d (codes "got 3 0")) ≡ Ok (record two_clients { place = places.Draws; draws = (draws.Got 3 0 ∷ []) ∷ [] }))
    × (line_step two_clients (codes "draws 0 1") ≡ Err reasons.Order)
unfolding line_step three_numbers opened spelled
draws_taken = (refl, refl)
