-- What each status says of a call: of what it took from its source and of what its sink gained. `left`, `written` and the faults of
-- source and sink are before and after the call.
use Rattle.std.specs.Prelude.{◌≡◌, ℕ, List, Option}
use Rattle.hs_base.specs.Outside.{Rose, Gains}
use Rattle.hs_records.specs.Journals.{PlainJournal}
use Rattle.hs_law_journal.specs.Lawful.{IsLawful}
use Rattle.hs_law_run.specs.Lockstep.{lockstep}
use Rattle.hs_report.specs.OutcomeText.{outcome_text}
use Rattle.hs_report.specs.declared.form.Form.TheVariants.{Text as Lines}
use Rattle.hs_records.specs.Plain.{PlainWorkload}
use Rattle.hs_workload.specs.Input.{ReadWhole, ReadBeyond, ReadFront}
use Rattle.hs_workload.specs.Refusals.{IsRefused, too_long_text}
use Rattle.hs_workload.specs.Written.{GainsFront}
use Rattle.hs_workload.specs.declared.status.Status.{Status}
use Rattle.hs_workload.specs.declared.status.Status.TheVariants.{Done, Usage, Refused, ReadFault, WriteFault, Memory, TooLong, Unlawful}
use Rattle.hs_workload.specs.Statuses.{NoneFailed}
use Rattle.hs_workload.specs.Grammar.{Reads}

-- The text is an outcome of the workload. Its journal is the one that the lockstep schedule writes, and it is lawful.
abbrev pub Due : PlainWorkload → List ℕ → Type 0
Due W text = (J : PlainJournal) × IsLawful W J × (J ≡ lockstep W) × (text ≡ outcome_text W J Lines)

-- Of an input that was read whole this status is due, with this text.
abbrev pub IsAnswer : (input : List ℕ) → Status → List ℕ → Type 0
IsAnswer input Done text = (W : PlainWorkload) × Reads input W × Due W text
IsAnswer input Refused text = IsRefused input text
IsAnswer input status text = ⊥

-- Before anything is written, this status is due, with this text.
abbrev pub IsDue : (left left' : Option (List ℕ)) → Status → List ℕ → Type 0
IsDue left left' TooLong text = (input : List ℕ) × ReadBeyond left left' input × (text ≡ too_long_text)
IsDue left left' status text = (input : List ℕ) × ReadWhole left left' input × IsAnswer input status text

-- This status was due, and its text was written whole.
abbrev pub Wrote : (left left' written written' : Option (List ℕ)) → Status → Type 0
Wrote left left' written written' status = (text : List ℕ) × IsDue left left' status text × Gains written written' text

-- Some status was due, and of its text a front was written.
abbrev pub WroteFront : (left left' written written' : Option (List ℕ)) → Type 0
WroteFront left left' written written' = (status : Status) × (text : List ℕ) × IsDue left left' status text × GainsFront written written' text

-- what a status says
abbrev pub Ends : (left left' written written' : Option (List ℕ)) (source source' sink sink' : ℕ) → Status → Type 0
Ends left left' written written' source source' sink sink' Done = NoneFailed source source' sink sink' × Wrote left left' written written' Done
Ends left left' written written' source source' sink sink' Refused = NoneFailed source source' sink sink' × Wrote left left' written written' Refused
Ends left left' written written' source source' sink sink' TooLong = NoneFailed source source' sink sink' × Wrote left left' written written' TooLong
Ends left left' written written' source source' sink sink' ReadFault = Rose source source' × (sink' ≡ sink) × (written' ≡ written) × ((input : List ℕ) × ReadFront left left' input)
Ends left left' written written' source source' sink sink' WriteFault = (source' ≡ source) × Rose sink sink' × WroteFront left left' written written'
Ends left left' written written' source source' sink sink' Memory = NoneFailed source source' sink sink' × (written' ≡ written)
Ends left left' written written' source source' sink sink' Usage = ⊥
Ends left left' written written' source source' sink sink' Unlawful = ⊥
