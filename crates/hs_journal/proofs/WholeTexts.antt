-- A text is read up to the first fault, or to the end as the journal that it is; what begins with a journal begins with
-- that one only.
use Rattle.std.proofs.Common.{◌≡◌, ℕ, List, [], ◌++◌, map, None, Some, refl, sym, ap, ◌∙◌}
use Rattle.std.proofs.lemmas.List.{append-nil}
use Rattle.hs_text.specs.Text.{text_of}
use Rattle.hs_text.specs.Judging.{first_fault_in}
use Rattle.hs_text.specs.JudgingLaws.{Makes, faultless_made, run_clean, one_beginning}
use Rattle.hs_journal.specs.declared.refusal.JournalRefusal.{JournalRefusal}
use Rattle.hs_records.specs.Journals.{PlainJournal, IsJournal}
use Rattle.hs_journal.specs.Statements.{statement_line}
use Rattle.hs_journal.specs.Grammar.{journal_lines, journal_text, Reads}
use Rattle.hs_journal.specs.Laws.{IsJournalText}
use Rattle.hs_journal.specs.Faults.{judging, first_fault}
use Rattle.hs_journal.specs.Forward.{Draft, journal_drafted}
use Rattle.hs_journal.proofs.Kept.{ended_said, ended_journal}
use Rattle.hs_journal.proofs.Seen.{journal_reader, stops}
use Rattle.hs_journal.proofs.Runs.{ended_draft, run_journal}

pub first_fault-judged : (text : List ℕ) → first_fault text ≡ first_fault_in judging text
unfolding first_fault
first_fault-judged text = refl

lines_text : (J : PlainJournal) → journal_text J ≡ text_of (journal_lines J)
lines_text J = refl

-- what the reader makes of a text is the journal of the text
pub made_reads : (text : List ℕ) (d : Draft) → Makes journal_reader text d → Reads text (journal_drafted d)
made_reads text d made =
    record {
      journal = ended_journal d made.sees.keeps made.ended;
      spelled = made.spelled ∙ ap text_of (made.sees.lines ∙ ap (map statement_line) (ended_said d made.ended));
    }

pub faultless_reads : (text : List ℕ) → first_fault text ≡ None → IsJournalText text
faultless_reads text none =
    let made = faultless_made journal_reader text (sym (first_fault-judged text) ∙ none) in
    record { journal = journal_drafted made.0; reads = made_reads text made.0 made.1 }

pub journal_has_no_fault : (text : List ℕ) (J : PlainJournal) → Reads text J → first_fault text ≡ None
journal_has_no_fault text J reads =
    first_fault-judged text ∙ ap (first_fault_in judging) (reads.spelled ∙ lines_text J)
    ∙ run_clean journal_reader (ended_draft J) (journal_lines J) (run_journal J reads.journal) refl

pub beginnings_same : (J K : PlainJournal) (a b : List ℕ) → IsJournal J → IsJournal K → journal_text J ++ a ≡ journal_text K ++ b → (J ≡ K) × (a ≡ b)
beginnings_same J K a b is_J is_K text =
    let same = one_beginning journal_reader stops (ended_draft J) (ended_draft K) (journal_lines J) (journal_lines K) a b (run_journal J is_J) (run_journal K is_K) refl refl
    (ap (λ t. t ++ a) (sym (lines_text J)) ∙ text ∙ ap (λ t. t ++ b) (lines_text K)) in
    (ap journal_drafted same.0, same.1)

pub one_journal : (text : List ℕ) (J K : PlainJournal) → Reads text J → Reads text K → J ≡ K
one_journal text J K reads_J reads_K =
    (beginnings_same J K [] [] reads_J.journal reads_K.journal (ap (λ t. t ++ []) (sym reads_J.spelled ∙ reads_K.spelled))).0

pub no_beginning : (J K : PlainJournal) (more : List ℕ) → IsJournal J → IsJournal K → journal_text K ≡ journal_text J ++ more → (K ≡ J) × (more ≡ [])
no_beginning J K more is_J is_K text =
    let same = beginnings_same K J [] more is_K is_J (append-nil (journal_text K) ∙ text) in
    (same.0, sym same.1)

-- a text that reads as a journal is not refused
pub never_refused : (text : List ℕ) (J : PlainJournal) (refusal : JournalRefusal) → Reads text J → first_fault text ≡ Some refusal → ⊥
never_refused text J refusal reads fault = let none = journal_has_no_fault text J reads in cc
