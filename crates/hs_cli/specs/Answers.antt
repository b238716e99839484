-- What a command is about, once it took what it takes from its source, and why; and what it answers.
use Rattle.std.specs.Prelude.{◌≡◌, ◌≤◌, ⊤, ℕ, List, Option, length}
use Rattle.hs_base.specs.Outside.{Rose}
use Rattle.hs_base.specs.declared.limits.TheConstants.{MAX_INPUT}
use Rattle.hs_journal.specs.Grammar.{Reads as ReadsJournal}
use Rattle.hs_records.specs.Journals.{PlainJournal}
use Rattle.hs_law_journal.specs.Lawful.{IsLawful}
use Rattle.hs_report.specs.OutcomeText.{outcome_text}
use Rattle.hs_report.specs.declared.form.Form.TheVariants.{Text as Lines}
use Rattle.hs_records.specs.Plain.{PlainWorkload}
use Rattle.hs_records.specs.Validity.{IsValid}
use Rattle.hs_records.specs.Views.{workload_of}
use Rattle.hs_workload.specs.Input.{ReadBeyond, ReadFront}
use Rattle.hs_workload.specs.Refusals.{IsRefused}
use Rattle.hs_cli.specs.Endings.{IsReader, IsAbout, AreParts, Due, RefusesWorkload, IsRefusedJournal, IsUnlawful, workload_in}
use Rattle.hs_cli.specs.declared.command.Command.{Command}
use Rattle.hs_cli.specs.declared.command.Command.TheVariants.{Check}
use Rattle.hs_workload.specs.declared.status.Status.{Status}
use Rattle.hs_workload.specs.declared.status.Status.TheVariants.{Done, Refused as RefusedStatus, Unlawful}
use Rattle.hs_cli.specs.declared.answer.Subject.{Subject}
use Rattle.hs_cli.specs.declared.answer.Subject.TheVariants.{Found, Refused, TooLong, Fault, NoMemory}

-- `left` and the faults of the source are before and after.
abbrev pub IsSubject : Command → (left left' : Option (List ℕ)) (faults faults' : ℕ) → Subject → Type 0
IsSubject command left left' faults faults' (Found workload journal) =
    IsAbout command left left' (workload_of workload) journal.items × IsValid (workload_of workload) × (length journal.items ≤ MAX_INPUT) × (faults' ≡ faults)
IsSubject command left left' faults faults' (Refused text) = RefusesWorkload command left left' text.items × (faults' ≡ faults)
IsSubject command left left' faults faults' TooLong = IsReader command × ((input : List ℕ) × ReadBeyond left left' input) × (faults' ≡ faults)
IsSubject command left left' faults faults' Fault = IsReader command × Rose faults faults' × ((input : List ℕ) × ReadFront left left' input)
IsSubject command left left' faults faults' NoMemory = faults' ≡ faults

-- what an input comes to that was read whole
abbrev pub IsFoundIn : Command → List ℕ → Subject → Type 0
IsFoundIn command input (Found workload journal) = AreParts command input (workload_of workload) journal.items × (length journal.items ≤ length input)
IsFoundIn command input (Refused text) = IsRefused (workload_in command input) text.items
IsFoundIn command input TooLong = ⊥
IsFoundIn command input Fault = ⊥
IsFoundIn command input NoMemory = ⊤

-- A command over a workload, and for `check` the text of a journal, has this status, with this text.
abbrev pub IsAnswer : Command → PlainWorkload → (journal : List ℕ) → Status → List ℕ → Type 0
IsAnswer command W journal Done text = Due command W journal text
IsAnswer command W journal RefusedStatus text = (command ≡ Check) × IsRefusedJournal journal text
IsAnswer command W journal Unlawful text = (command ≡ Check) × ((J : PlainJournal) × ReadsJournal journal J × IsUnlawful W J text)
IsAnswer command W journal status text = ⊥

-- A workload and a journal have this status, with this text.
abbrev pub IsJudged : PlainWorkload → PlainJournal → Status → List ℕ → Type 0
IsJudged W J Done text = IsLawful W J × (text ≡ outcome_text W J Lines)
IsJudged W J Unlawful text = IsUnlawful W J text
IsJudged W J status text = ⊥
