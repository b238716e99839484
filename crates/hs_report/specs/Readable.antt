-- That what is written of a lawful journal reads as that journal: of one whose workload has room for it, and so of one of a valid
-- workload.
use Rattle.hs_journal.specs.Grammar.{Reads, journal_text}
use Rattle.hs_law_journal.specs.Lawful.{IsLawful}
use Rattle.hs_law_outcome.specs.Origins.{HasItsClients}
use Rattle.hs_law_outcome.specs.Readable.{HasRoom}
use Rattle.hs_law_outcome.specs.Records.{EndsItsTraces}
use Rattle.hs_records.specs.Journals.{PlainJournal}
use Rattle.hs_records.specs.Plain.{PlainWorkload}
use Rattle.hs_records.specs.Validity.{IsValid}

-- What is written of a lawful journal reads as that journal.
abbrev pub LawfulJournalsCanBeRead : Type 0
LawfulJournalsCanBeRead = (W : PlainWorkload) (J : PlainJournal) → EndsItsTraces W → HasItsClients W → HasRoom W → IsLawful W J → Reads (journal_text J) J

-- What is written of a lawful journal of a valid workload reads as that journal.
abbrev pub JournalsCanBeRead : Type 0
JournalsCanBeRead = (W : PlainWorkload) (J : PlainJournal) → IsValid W → IsLawful W J → Reads (journal_text J) J
