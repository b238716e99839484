-- What each status says of a call: of the command that its words are, of what it took from its source and of what its sink gained.
-- `asked` is this command, and None where they are none. `left` and `written` are before and after the call.
use Rattle.std.specs.Prelude.{◌≡◌, ⊤, ◌⊎◌, ℕ, ◌≤◌, List, [], ◌∷◌, ◌++◌, length, Option, Some, None}
use Rattle.hs_base.specs.Outside.{Rose, Gains}
use Rattle.hs_base.specs.declared.limits.TheConstants.{MAX_INPUT}
use Rattle.hs_board.specs.declared.progress.Progress.{Progress}
use Rattle.hs_records.specs.Plain.{PlainWorkload}
use Rattle.hs_workload.specs.Grammar.{Reads, workload_text}
use Rattle.hs_make.specs.Made.{made_workload}
use Rattle.hs_journal.specs.declared.refusal.JournalRefusal.{JournalRefusal}
use Rattle.hs_records.specs.Journals.{PlainJournal}
use Rattle.hs_journal.specs.Grammar.{Reads as ReadsJournal}
use Rattle.hs_journal.specs.Faults.{first_fault as first_journal_fault}
use Rattle.hs_law_journal.specs.Lawful.{IsLawful, first_unlawful}
use Rattle.hs_ledger.specs.Totals.{totals_of}
use Rattle.hs_law_run.specs.Lockstep.{lockstep}
use Rattle.hs_law_outcome.specs.Outcomes.{outcome_of}
use Rattle.hs_report.specs.OutcomeText.{outcome_text, total_line}
use Rattle.hs_report.specs.declared.form.Form.TheVariants.{Text as Lines}
use Rattle.hs_text.specs.Text.{text_of}
use Rattle.hs_check.specs.Parts.{workload_part, journal_part}
use Rattle.hs_compare.specs.ComparisonText.{comparison_text}
use Rattle.hs_run.specs.Seen.{AreSeen}
use Rattle.hs_compare.specs.Lines.{comparison_of}
use Rattle.hs_board.specs.WatchText.{watch_text}
use Rattle.hs_workload.specs.Input.{ReadWhole, ReadBeyond, ReadFront}
use Rattle.hs_workload.specs.Refusals.{IsRefused, too_long_text}
use Rattle.hs_workload.specs.Written.{GainsFront}
use Rattle.hs_cli.specs.Messages.{usage_text, journal_refusal_text, unlawful_text}
use Rattle.hs_cli.specs.declared.command.Command.{Command}
use Rattle.hs_cli.specs.declared.command.Command.TheVariants.{Replay, Run, Watch, Convert, Make, Drill, Check, Compare}
use Rattle.hs_workload.specs.declared.status.Status.{Status}
use Rattle.hs_workload.specs.declared.status.Status.TheVariants.{Done, Usage, Refused, ReadFault, WriteFault, Memory, TooLong, Unlawful}
use Rattle.hs_workload.specs.Statuses.{NoneFailed}

-- ---- what a command owes

-- the total line of a workload's lockstep outcome
abbrev pub drill_text : PlainWorkload → List ℕ
drill_text W = text_of (total_line (totals_of (outcome_of W (lockstep W)).entries) ∷ [])

-- what a comparison says of a workload's lockstep outcome
abbrev pub compared_text : PlainWorkload → (one_in room : ℕ) → List ℕ
compared_text W one_in room = let outcome = outcome_of W (lockstep W) in comparison_text (comparison_of W outcome.entries outcome.claimed one_in room)

-- What each command owes for a workload; `check` takes the text of a journal with it. `replay`, `run` and `check` owe an outcome under a
-- lawful journal. For `replay` it is the one that the lockstep schedule writes, for `run` one that its threads decide, and for `check`
-- the one that it was given. `run --watch` owes what `run` owes, and after it what two watchers saw of that run.
abbrev pub Due : Command → PlainWorkload → (journal text : List ℕ) → Type 0
Due (Replay form) W journal text = (J : PlainJournal) × IsLawful W J × (J ≡ lockstep W) × (text ≡ outcome_text W J form)
Due (Run form) W journal text = (J : PlainJournal) × IsLawful W J × (text ≡ outcome_text W J form)
Due Watch W journal text = (J : PlainJournal) × (seen : List (List Progress)) × IsLawful W J × AreSeen W J seen × (text ≡ outcome_text W J Lines ++ watch_text seen)
Due Check W journal text = (J : PlainJournal) × ReadsJournal journal J × IsLawful W J × (text ≡ outcome_text W J Lines)
Due Convert W journal text = text ≡ workload_text (record W { version = 2 })
Due (Make seed size) W journal text = text ≡ workload_text W
Due (Drill seed size) W journal text = text ≡ drill_text W
Due (Compare one_in room) W journal text = text ≡ compared_text W one_in room

-- whether a command reads its workload; else it makes it
abbrev pub IsReader : Command → Type 0
IsReader (Replay form) = ⊤
IsReader (Run form) = ⊤
IsReader Watch = ⊤
IsReader Convert = ⊤
IsReader Check = ⊤
IsReader (Compare one_in room) = ⊤
IsReader (Make seed size) = ⊥
IsReader (Drill seed size) = ⊥

-- Nothing was taken from the source, and it did not fail.
abbrev pub IsUntouched : Option (List ℕ) → Option (List ℕ) → (source source' : ℕ) → Type 0
IsUntouched left left' source source' = (left' ≡ left) × (source' ≡ source)

-- which part of an input is a workload: all of it, but of what `check` reads
abbrev pub workload_in : Command → List ℕ → List ℕ
workload_in Check input = workload_part input
workload_in command input = input

-- which part of an input is a journal: none, but of what `check` reads
abbrev pub journal_in : Command → List ℕ → List ℕ
journal_in Check input = journal_part input
journal_in command input = []

-- This part of an input is the text of the workload, and that part is where a journal stands.
abbrev pub AreParts : Command → List ℕ → PlainWorkload → List ℕ → Type 0
AreParts command input W journal = Reads (workload_in command input) W × (journal ≡ journal_in command input)

-- The command was about this workload: it made it and read nothing, or read the whole input, in which it stands, and behind it the
-- text of a journal, if one is looked for.
abbrev pub IsAbout : Command → Option (List ℕ) → Option (List ℕ) → PlainWorkload → (journal : List ℕ) → Type 0
IsAbout (Make seed size) left left' W journal = (left' ≡ left) × (W ≡ made_workload seed size)
IsAbout (Drill seed size) left left' W journal = (left' ≡ left) × (W ≡ made_workload seed size)
IsAbout command left left' W journal = (input : List ℕ) × ReadWhole left left' input × AreParts command input W journal

-- The command will be about this workload: it makes it, or a source that has a whole, short enough input gives it.
abbrev pub WillBeAbout : Command → Option (List ℕ) → PlainWorkload → (journal : List ℕ) → Type 0
WillBeAbout (Make seed size) left W journal = W ≡ made_workload seed size
WillBeAbout (Drill seed size) left W journal = W ≡ made_workload seed size
WillBeAbout command left W journal = (input : List ℕ) × (left ≡ Some input) × AreParts command input W journal × (length input ≤ MAX_INPUT)

-- The status to which a command over a workload comes, unless a stream fails or memory runs out: Done, but for `check` of a journal
-- that is not lawful, or of what is no journal.
abbrev pub ComesTo : Command → PlainWorkload → (journal : List ℕ) → Status → Type 0
ComesTo Check W journal Done = (J : PlainJournal) × ReadsJournal journal J × IsLawful W J
ComesTo Check W journal Unlawful = (J : PlainJournal) × ReadsJournal journal J × ¬ IsLawful W J
ComesTo Check W journal Refused = (J : PlainJournal) → ¬ ReadsJournal journal J
ComesTo Check W journal status = ⊥
ComesTo command W journal status = status ≡ Done

-- The text is no journal's, and this other one names its first bad line with the line's first reason.
pub record IsRefusedJournal (journal text : List ℕ) : Type 0 where
  pub refusal : JournalRefusal
  pub first : first_journal_fault journal ≡ Some refusal
  pub no_journal : (J : PlainJournal) → ReadsJournal journal J → ⊥
  pub told : text ≡ journal_refusal_text refusal.line refusal.reason

-- The journal is not lawful for the workload, and this text names the first clause that fails.
pub record IsUnlawful (W : PlainWorkload) (J : PlainJournal) (text : List ℕ) : Type 0 where
  pub clause : ℕ
  pub first : first_unlawful W J ≡ Some clause
  pub broken : ¬ IsLawful W J
  pub told : text ≡ unlawful_text clause

-- ---- statuses

-- The input was read whole, and no workload stands in it. This text says so.
abbrev pub RefusesWorkload : Command → Option (List ℕ) → Option (List ℕ) → List ℕ → Type 0
RefusesWorkload command left left' text = IsReader command × ((input : List ℕ) × ReadWhole left left' input × IsRefused (workload_in command input) text)

-- `check` was about a workload, and behind it no journal stands. This text says so.
abbrev pub RefusesJournal : Command → Option (List ℕ) → Option (List ℕ) → List ℕ → Type 0
RefusesJournal command left left' text =
    (command ≡ Check) × ((W : PlainWorkload) × (journal : List ℕ) × IsAbout Check left left' W journal × IsRefusedJournal journal text)

-- `check` was about a workload and a journal, which is not lawful for it. This text says so.
abbrev pub FindsUnlawful : Command → Option (List ℕ) → Option (List ℕ) → List ℕ → Type 0
FindsUnlawful command left left' text =
    (command ≡ Check) × ((W : PlainWorkload) × (journal : List ℕ) × IsAbout Check left left' W journal × ((J : PlainJournal) × ReadsJournal journal J × IsUnlawful W J text))

-- Of a command, before anything is written, this status is due, with this text.
abbrev pub Owes : Command → Option (List ℕ) → Option (List ℕ) → Status → List ℕ → Type 0
Owes command left left' Done text = (W : PlainWorkload) × (journal : List ℕ) × IsAbout command left left' W journal × Due command W journal text
Owes command left left' Refused text = RefusesWorkload command left left' text ⊎ RefusesJournal command left left' text
Owes command left left' Unlawful text = FindsUnlawful command left left' text
Owes command left left' TooLong text = IsReader command × ((input : List ℕ) × ReadBeyond left left' input × (text ≡ too_long_text))
Owes command left left' Usage text = ⊥
Owes command left left' ReadFault text = ⊥
Owes command left left' WriteFault text = ⊥
Owes command left left' Memory text = ⊥

-- Before anything is written, this status is due, with this text.
abbrev pub IsDue : Option Command → Option (List ℕ) → Option (List ℕ) → Status → List ℕ → Type 0
IsDue asked left left' Usage text = (asked ≡ None) × (left' ≡ left) × (text ≡ usage_text)
IsDue asked left left' status text = (command : Command) × (asked ≡ Some command) × Owes command left left' status text

-- This status was due, and its text was written whole.
abbrev pub Wrote : Option Command → Option (List ℕ) → Option (List ℕ) → Option (List ℕ) → Option (List ℕ) → Status → Type 0
Wrote asked left left' written written' status = (text : List ℕ) × IsDue asked left left' status text × Gains written written' text

-- Some status was due, and of its text a front was written.
abbrev pub WroteFront : Option Command → Option (List ℕ) → Option (List ℕ) → Option (List ℕ) → Option (List ℕ) → Type 0
WroteFront asked left left' written written' = (status : Status) × (text : List ℕ) × IsDue asked left left' status text × GainsFront written written' text

-- The words are a command that reads.
abbrev pub Reading : Option Command → Type 0
Reading asked = (command : Command) × (asked ≡ Some command) × IsReader command

-- what a status says of a command
abbrev pub EndsWith : Command → Option (List ℕ) → Option (List ℕ) → Option (List ℕ) → Option (List ℕ) → (source source' sink sink' : ℕ) → Status → Type 0
EndsWith command left left' written written' source source' sink sink' ReadFault = IsReader command × Rose source source' × (sink' ≡ sink) × (written' ≡ written) × ((input : List ℕ) × ReadFront left left' input)
EndsWith command left left' written written' source source' sink sink' WriteFault = (source' ≡ source) × Rose sink sink' × ((status : Status) × (text : List ℕ) × Owes command left left' status text × GainsFront written written' text)
EndsWith command left left' written written' source source' sink sink' Memory = NoneFailed source source' sink sink' × (written' ≡ written)
EndsWith command left left' written written' source source' sink sink' status = NoneFailed source source' sink sink' × ((text : List ℕ) × Owes command left left' status text × Gains written written' text)

-- what a status says of any words
abbrev pub Ends : Option Command → Option (List ℕ) → Option (List ℕ) → Option (List ℕ) → Option (List ℕ) → (source source' sink sink' : ℕ) → Status → Type 0
Ends asked left left' written written' source source' sink sink' Done = NoneFailed source source' sink sink' × Wrote asked left left' written written' Done
Ends asked left left' written written' source source' sink sink' Usage = NoneFailed source source' sink sink' × Wrote asked left left' written written' Usage
Ends asked left left' written written' source source' sink sink' Refused = NoneFailed source source' sink sink' × Wrote asked left left' written written' Refused
Ends asked left left' written written' source source' sink sink' TooLong = NoneFailed source source' sink sink' × Wrote asked left left' written written' TooLong
Ends asked left left' written written' source source' sink sink' Unlawful = NoneFailed source source' sink sink' × Wrote asked left left' written written' Unlawful
Ends asked left left' written written' source source' sink sink' ReadFault = Reading asked × Rose source source' × (sink' ≡ sink) × (written' ≡ written) × ((input : List ℕ) × ReadFront left left' input)
Ends asked left left' written written' source source' sink sink' WriteFault = (source' ≡ source) × Rose sink sink' × WroteFront asked left left' written written'
Ends asked left left' written written' source source' sink sink' Memory = NoneFailed source source' sink sink' × (written' ≡ written)
