-- That a journal and its text stand for one another: how many texts a journal has and how many journals a text, and that no such
-- text begins another.
use Rattle.std.specs.Prelude.{◌≡◌, ℕ, List, [], ◌++◌, None}
use Rattle.hs_records.specs.Journals.{PlainJournal, IsJournal}
use Rattle.hs_journal.specs.Grammar.{journal_text, Reads}
use Rattle.hs_journal.specs.Faults.{first_fault}

-- the text of some journal
pub record IsJournalText (text : List ℕ) : Type 0 where
  pub journal : PlainJournal
  pub reads : Reads text journal

-- A text has no fault exactly where it is the text of some journal. So what was written is read back.
abbrev pub FaultlessTextsAreJournals : Type 0
FaultlessTextsAreJournals = (text : List ℕ) → (first_fault text ≡ None → IsJournalText text) × (IsJournalText text → first_fault text ≡ None)

-- a text reads as one journal at most
abbrev pub TextsHaveOneJournal : Type 0
TextsHaveOneJournal = (text : List ℕ) (J K : PlainJournal) → Reads text J → Reads text K → J ≡ K

-- a journal has one text
abbrev pub JournalsHaveOneText : Type 0
JournalsHaveOneText = (J : PlainJournal) (text other : List ℕ) → Reads text J → Reads other J → text ≡ other

-- the text of one journal never goes on as that of a second one
abbrev pub NoTextBeginsAnother : Type 0
NoTextBeginsAnother = (J K : PlainJournal) (more : List ℕ) → IsJournal J → IsJournal K → journal_text K ≡ journal_text J ++ more → (K ≡ J) × (more ≡ [])

-- what begins with a journal's text begins with that of one only, and the rest is one
abbrev pub BeginningsAreOne : Type 0
BeginningsAreOne =
    (J K : PlainJournal) (rest other : List ℕ) → IsJournal J → IsJournal K → journal_text J ++ rest ≡ journal_text K ++ other → (J ≡ K) × (rest ≡ other)
