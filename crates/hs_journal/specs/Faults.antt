-- What is wrong with a line after the lines before it: the first reason of the list that holds. The first line that has
-- a reason is the text's fault. A text that ends before its line `end` has ended is cut off in the line that is missing.
use Rattle.std.specs.Prelude.{◌≡◌, ℕ, ◌*◌, ◌/◌, ◌%◌, ◌==◌, nat_lt, nat_le, Bool, true, false, not, ◌&&◌, ◌||◌, List, [], ◌∷◌, length, slice_index, Option, Some, None, is_none}
use Rattle.hs_text.specs.declared.opening.LineReasons.{LineReasons}
use Rattle.hs_text.specs.Steps.{first_that_holds}
use Rattle.hs_text.specs.Opening.{line_reasons}
use Rattle.hs_text.specs.Judging.{Judging, first_fault_in}
use Rattle.hs_text.specs.Text.{numbers_of}
use Rattle.hs_base.specs.declared.limits.TheConstants.{MAX_NODES, MAX_CLIENTS, MAX_BUFFERS}
use Rattle.hs_base.specs.Ranges.{is_out}
use Rattle.hs_journal.specs.declared.refusal.JournalReason.{JournalReason}
use Rattle.hs_journal.specs.declared.refusal.JournalReason.TheVariants as reasons
use Rattle.hs_journal.specs.declared.refusal.JournalRefusal.{JournalRefusal}
use Rattle.hs_journal.specs.declared.refusal.JournalError.{JournalError}
use Rattle.hs_journal.specs.declared.refusal.JournalError.TheVariants as errors
use Rattle.hs_journal.specs.declared.word.Keyword.{Keyword}
use Rattle.hs_journal.specs.declared.word.Keyword.TheVariants as keywords
use Rattle.hs_journal.specs.declared.part.JournalPart.{JournalPart}
use Rattle.hs_journal.specs.declared.part.JournalPart.TheVariants as places
use Rattle.hs_journal.specs.declared.line.Numbers.{Numbers}
use Rattle.hs_journal.specs.Statements.{Statement, number_count, keyword_of, says}
use Rattle.hs_journal.specs.LookBack.{Past, said, past_said}

-- ---- which word may stand at a place

-- how many clients the journal has
abbrev pub all_clients : Past → ℕ
all_clients past = past.nodes * past.clients

abbrev pub may_begin_journal : JournalPart → Bool
may_begin_journal places.Start = true
may_begin_journal _ = false

-- behind the first line, and behind draws where clients are left
abbrev pub may_begin_draws : Past → JournalPart → Bool
may_begin_draws past places.Head = true
may_begin_draws past places.Draws = nat_lt past.draws (all_clients past)
may_begin_draws past _ = false

abbrev pub is_in_draws : JournalPart → Bool
is_in_draws places.Draws = true
is_in_draws _ = false

-- behind the draws of the last client, and behind a log where nodes are left
abbrev pub may_begin_log : Past → JournalPart → Bool
may_begin_log past places.Draws = nat_le (all_clients past) past.draws
may_begin_log past places.Logs = nat_lt past.logs past.nodes
may_begin_log past _ = false

abbrev pub is_in_logs : JournalPart → Bool
is_in_logs places.Logs = true
is_in_logs _ = false

abbrev pub is_in_order : JournalPart → Bool
is_in_order places.Order = true
is_in_order _ = false

abbrev pub is_ended : JournalPart → Bool
is_ended places.Ended = true
is_ended _ = false

abbrev pub may_stand : Past → Keyword → Bool
may_stand past keywords.Journal = may_begin_journal past.place
may_stand past keywords.Draws = may_begin_draws past past.place
may_stand past keywords.Got = is_in_draws past.place
may_stand past keywords.Empty = is_in_draws past.place
may_stand past keywords.Log = may_begin_log past past.place
-- behind the log of the last node
may_stand past keywords.Coordinator = is_in_logs past.place && nat_le past.nodes past.logs
may_stand past keywords.Told = is_in_order past.place
may_stand past keywords.End = is_in_order past.place
may_stand past _ = is_in_logs past.place

-- ---- the numbers of a line

-- the numbers of a line by their places, 0 where it has none
abbrev pub numbers_at : List ℕ → Numbers
numbers_at ns = record { first = slice_index ns 0; second = slice_index ns 1; third = slice_index ns 2 }

-- the version is 1, and the numbers of nodes and clients, of buffers, clients and nodes have their limits
abbrev pub is_out_of_range : Past → Keyword → Numbers → Bool
is_out_of_range past keywords.Journal n = not (n.first == 1) || is_out 1 MAX_NODES n.second || is_out 1 MAX_CLIENTS n.third
is_out_of_range past keywords.Got n = nat_le MAX_BUFFERS n.first
is_out_of_range past keywords.Chunk n = nat_le past.clients n.first
is_out_of_range past keywords.Crumb n = nat_le past.clients n.first
is_out_of_range past keywords.Trigger n = nat_le past.clients n.first
is_out_of_range past keywords.Told n = nat_le past.nodes n.first
is_out_of_range past _ n = false

-- draws that are not those of the next client in the order of node and number, or a log that is not the next node's
abbrev pub is_out_of_order : Past → Keyword → Numbers → Bool
is_out_of_order past keywords.Draws n = not (n.first == past.draws / past.clients) || not (n.second == past.draws % past.clients)
is_out_of_order past keywords.Log n = not (n.first == past.logs)
is_out_of_order past _ n = false

-- ---- the reasons in their order

-- those that ask what a line says
abbrev pub statement_reasons : Past → Option Statement → List (Bool × JournalReason)
statement_reasons past None = []
statement_reasons past (Some s) =
    (is_out_of_range past s.keyword (numbers_at s.numbers), reasons.Range) ∷ (is_out_of_order past s.keyword (numbers_at s.numbers), reasons.Order) ∷ []

-- those of a first word with the words behind it
abbrev pub keyword_reasons : Past → Keyword → List (List ℕ) → List (Bool × JournalReason)
keyword_reasons past keyword words =
    (not (may_stand past keyword), reasons.Word) ∷ (not (length words == number_count keyword), reasons.Count) ∷ (is_none (numbers_of words), reasons.Number)
    ∷ statement_reasons past (says keyword words)

-- those before its first word
abbrev pub before_words : LineReasons JournalReason
before_words = record { byte = reasons.Byte; spaces = reasons.Spaces; word = reasons.Word }

-- what is wrong with a line, after lines that say this
unfoldable pub fault_at : Past → List ℕ → Option JournalReason
fault_at past line = first_that_holds (line_reasons before_words keyword_of (keyword_reasons past) line)

-- what is wrong with a line after the earlier lines, the newest first
abbrev pub fault_of : List (List ℕ) → List ℕ → Option JournalReason
fault_of earlier line = fault_at (past_said (said earlier)) line

-- ---- the first bad line

abbrev pub refusal_at : ℕ → JournalReason → JournalRefusal
refusal_at line reason = record { line = line; reason = reason }

-- the text may end where `end` was read
abbrev pub judging : Judging JournalReason JournalRefusal
judging = record { fault_of = fault_of; is_whole = λ earlier. is_ended (past_said (said earlier)).place; cut_off = reasons.Truncated; refusal_at = refusal_at }

unfoldable pub first_fault : List ℕ → Option JournalRefusal
first_fault text = first_fault_in judging text

-- an error that is a refusal names the first fault
abbrev pub Refuses : Option JournalRefusal → JournalError → Type 0
Refuses fault (errors.Refused refusal) = fault ≡ Some refusal
Refuses fault errors.Memory = Unit {0}
