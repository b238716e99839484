-- A command over a valid workload ends as it has to, where neither the source nor the sink failed.
use Rattle.std.proofs.Common.{◌≡◌, ℕ, ◌≤◌, List, length, Option, Some, None, ◌⊎◌, inl, inr, refl, sym, ap, subst, ◌∙◌, arith}
use Rattle.hs_base.specs.Outside.{Rose}
use Rattle.hs_base.specs.declared.limits.TheConstants.{MAX_INPUT}
use Rattle.hs_records.specs.Plain.{PlainWorkload}
use Rattle.hs_workload.specs.Grammar.{Reads}
use Rattle.hs_journal.specs.Grammar.{Reads as ReadsJournal}
use Rattle.hs_journal.specs.Laws.{TextsHaveOneJournal}
use Rattle.hs_records.specs.Journals.{PlainJournal}
use Rattle.hs_law_journal.specs.Lawful.{IsLawful}
use Rattle.hs_check.specs.Parts.{workload_part, journal_part}
use Rattle.hs_workload.specs.Input.{ReadWhole, ReadBeyond}
use Rattle.hs_workload.specs.Refusals.{IsRefused}
use Rattle.hs_workload.proofs.Taking.{taken_whole, taken_beyond}
use Rattle.hs_cli.specs.Endings.{WillBeAbout, IsAbout, AreParts, RefusesWorkload, RefusesJournal, Due, ComesTo, Owes, Ends, workload_in}
use Rattle.hs_cli.specs.declared.command.Command.{Command}
use Rattle.hs_cli.specs.declared.command.Command.TheVariants.{Replay, Run, Watch, Convert, Make, Drill, Check, Compare}
use Rattle.hs_workload.specs.declared.status.Status.{Status}
use Rattle.hs_workload.specs.declared.status.Status.TheVariants.{Done, Usage, Refused, ReadFault, WriteFault, Memory, TooLong, Unlawful}

-- a workload's text is not refused
text_reads : (command : Command) (left left' : Option (List ℕ)) (W : PlainWorkload) (journal bytes text : List ℕ) → ReadWhole left left' bytes → IsRefused (workload_in command bytes) text
    → ((input : List ℕ) × (left ≡ Some input) × AreParts command input W journal × (length input ≤ MAX_INPUT)) → ⊥
text_reads command left left' W journal bytes text whole refused (input, is, (known, part), short) =
    refused.no_workload W (subst (λ (t : List ℕ). Reads (workload_in command t) W) (sym (taken_whole left left' input bytes is whole)) known)

not_refused : (command : Command) (left left' : Option (List ℕ)) (text : List ℕ) (W : PlainWorkload) (journal : List ℕ) → WillBeAbout command left W journal → RefusesWorkload command left left' text → ⊥
not_refused (Make seed size) left left' text W journal will (reader, rest) = reader
not_refused (Drill seed size) left left' text W journal will (reader, rest) = reader
not_refused (Replay form) left left' text W journal will (reader, (bytes, whole, refused)) = text_reads (Replay form) left left' W journal bytes text whole refused will
not_refused (Run form) left left' text W journal will (reader, (bytes, whole, refused)) = text_reads (Run form) left left' W journal bytes text whole refused will
not_refused Watch left left' text W journal will (reader, (bytes, whole, refused)) = text_reads Watch left left' W journal bytes text whole refused will
not_refused Convert left left' text W journal will (reader, (bytes, whole, refused)) = text_reads Convert left left' W journal bytes text whole refused will
not_refused (Compare one_in room) left left' text W journal will (reader, (bytes, whole, refused)) = text_reads (Compare one_in room) left left' W journal bytes text whole refused will
not_refused Check left left' text W journal will (reader, (bytes, whole, refused)) = text_reads Check left left' W journal bytes text whole refused will

-- no more was read of it than an input may have
fits : (command : Command) (left left' : Option (List ℕ)) (W : PlainWorkload) (journal bytes : List ℕ) → ReadBeyond left left' bytes
    → ((input : List ℕ) × (left ≡ Some input) × AreParts command input W journal × (length input ≤ MAX_INPUT)) → ⊥
fits command left left' W journal bytes beyond (input, is, known, short) =
    let most = taken_beyond left left' input bytes is beyond in
    let long = beyond.long in
    absurd (omega (arith, most, long, short))

not_too_long : (command : Command) (left left' : Option (List ℕ)) (text : List ℕ) (W : PlainWorkload) (journal : List ℕ) → WillBeAbout command left W journal → Owes command left left' TooLong text → ⊥
not_too_long (Make seed size) left left' text W journal will (reader, rest) = reader
not_too_long (Drill seed size) left left' text W journal will (reader, rest) = reader
not_too_long (Replay form) left left' text W journal will (reader, (bytes, beyond, told)) = fits (Replay form) left left' W journal bytes beyond will
not_too_long (Run form) left left' text W journal will (reader, (bytes, beyond, told)) = fits (Run form) left left' W journal bytes beyond will
not_too_long Watch left left' text W journal will (reader, (bytes, beyond, told)) = fits Watch left left' W journal bytes beyond will
not_too_long Convert left left' text W journal will (reader, (bytes, beyond, told)) = fits Convert left left' W journal bytes beyond will
not_too_long (Compare one_in room) left left' text W journal will (reader, (bytes, beyond, told)) = fits (Compare one_in room) left left' W journal bytes beyond will
not_too_long Check left left' text W journal will (reader, (bytes, beyond, told)) = fits Check left left' W journal bytes beyond will

-- words are one command
same_command : (asked : Option Command) (command other : Command) → asked ≡ Some command → asked ≡ Some other → other ≡ command
same_command asked command other is also =
    let both : Some other ≡ Some command = sym also ∙ is in
    cc

-- ---- a check of parts that read

module _ (once : (text : List ℕ) (V W : PlainWorkload) → Reads text V → Reads text W → V ≡ W) (one : TextsHaveOneJournal)
    (left left' : Option (List ℕ)) (W : PlainWorkload) (journal : List ℕ) (will : WillBeAbout Check left W journal) where
  -- a check was about the parts of its input
  same_parts : (V : PlainWorkload) (other : List ℕ) → IsAbout Check left left' V other → (V ≡ W) × (other ≡ journal)
  same_parts V other (bytes, whole, (reads, part)) =
      let (input, is, (known, known_part), short) = will in
      let same : bytes ≡ input = taken_whole left left' input bytes is whole in
      (once (workload_part input) V W (subst (λ (t : List ℕ). Reads (workload_part t) V) same reads) known, part ∙ ap journal_part same ∙ sym known_part)

  -- and about the journal of the second part
  its_journal : (V : PlainWorkload) (other : List ℕ) (K : PlainJournal) → IsAbout Check left left' V other → ReadsJournal other K → ReadsJournal journal K
  its_journal V other K about reads = subst (λ (t : List ℕ). ReadsJournal t K) (same_parts V other about).1 reads

  at_the_part : (V : PlainWorkload) (other : List ℕ) (J : PlainJournal) → IsAbout Check left left' V other → ReadsJournal journal J → ReadsJournal other J
  at_the_part V other J about known = subst (λ (t : List ℕ). ReadsJournal t J) (sym (same_parts V other about).1) known

  same_journal : (V : PlainWorkload) (other : List ℕ) (J K : PlainJournal) → IsAbout Check left left' V other → ReadsJournal other K → ReadsJournal journal J → K ≡ J
  same_journal V other J K about reads known = one journal K J (its_journal V other K about reads) known

  -- so what it found lawful is lawful
  found_lawful : (V : PlainWorkload) (other : List ℕ) (J K : PlainJournal) → IsAbout Check left left' V other → ReadsJournal other K → ReadsJournal journal J → IsLawful V K → IsLawful W J
  found_lawful V other J K about reads known lawful =
      subst (λ (V' : PlainWorkload). IsLawful V' J) (same_parts V other about).0 (subst (λ (K' : PlainJournal). IsLawful V K') (same_journal V other J K about reads known) lawful)

  -- and what is lawful it found lawful
  was_lawful : (V : PlainWorkload) (other : List ℕ) (J K : PlainJournal) → IsAbout Check left left' V other → ReadsJournal other K → ReadsJournal journal J → IsLawful W J → IsLawful V K
  was_lawful V other J K about reads known lawful =
      subst (λ (V' : PlainWorkload). IsLawful V' K) (sym (same_parts V other about).0) (subst (λ (K' : PlainJournal). IsLawful W K') (sym (same_journal V other J K about reads known)) lawful)

  check_done : (status : Status) → ComesTo Check W journal status → (V : PlainWorkload) (other text : List ℕ) → IsAbout Check left left' V other → Due Check V other text → Done ≡ status
  check_done Done comes V other text about due = refl
  check_done Unlawful (J, known, broken) V other text about (K, reads, lawful, told) = absurd (broken (found_lawful V other J K about reads known lawful))
  check_done Usage comes V other text about due = absurd comes
  check_done Refused comes V other text about (K, reads, lawful, told) = absurd (comes K (its_journal V other K about reads))
  check_done ReadFault comes V other text about due = absurd comes
  check_done WriteFault comes V other text about due = absurd comes
  check_done Memory comes V other text about due = absurd comes
  check_done TooLong comes V other text about due = absurd comes

  check_unlawful : (status : Status) → ComesTo Check W journal status → (text : List ℕ) → Owes Check left left' Unlawful text → Unlawful ≡ status
  check_unlawful Unlawful comes text owes = refl
  check_unlawful Done (J, known, lawful) text (is, (V, other, about, (K, reads, unlawful))) = absurd (unlawful.broken (was_lawful V other J K about reads known lawful))
  check_unlawful Usage comes text owes = absurd comes
  check_unlawful Refused comes text (is, (V, other, about, (K, reads, unlawful))) = absurd (comes K (its_journal V other K about reads))
  check_unlawful ReadFault comes text owes = absurd comes
  check_unlawful WriteFault comes text owes = absurd comes
  check_unlawful Memory comes text owes = absurd comes
  check_unlawful TooLong comes text owes = absurd comes

  check_refused : (status : Status) → ComesTo Check W journal status → (text : List ℕ) → RefusesJournal Check left left' text → Refused ≡ status
  check_refused Refused comes text owes = refl
  check_refused Done (J, known, lawful) text (is, (V, other, about, refused)) = absurd (refused.no_journal J (at_the_part V other J about known))
  check_refused Unlawful (J, known, broken) text (is, (V, other, about, refused)) = absurd (refused.no_journal J (at_the_part V other J about known))
  check_refused Usage comes text owes = absurd comes
  check_refused ReadFault comes text owes = absurd comes
  check_refused WriteFault comes text owes = absurd comes
  check_refused Memory comes text owes = absurd comes
  check_refused TooLong comes text owes = absurd comes

-- ---- any command

module _ (once : (text : List ℕ) (V W : PlainWorkload) → Reads text V → Reads text W → V ≡ W) (one : TextsHaveOneJournal) (left left' : Option (List ℕ)) where
  when_done : (command : Command) (W : PlainWorkload) (journal : List ℕ) → WillBeAbout command left W journal → (status : Status) → ComesTo command W journal status
      → (text : List ℕ) → Owes command left left' Done text → Done ≡ status
  when_done Check W journal will status comes text (V, other, about, due) = check_done once one left left' W journal will status comes V other text about due
  when_done (Make seed size) W journal will status comes text owes = sym comes
  when_done (Drill seed size) W journal will status comes text owes = sym comes
  when_done (Replay form) W journal will status comes text owes = sym comes
  when_done (Run form) W journal will status comes text owes = sym comes
  when_done Watch W journal will status comes text owes = sym comes
  when_done Convert W journal will status comes text owes = sym comes
  when_done (Compare one_in room) W journal will status comes text owes = sym comes

  when_unlawful : (command : Command) (W : PlainWorkload) (journal : List ℕ) → WillBeAbout command left W journal → (status : Status) → ComesTo command W journal status
      → (text : List ℕ) → Owes command left left' Unlawful text → Unlawful ≡ status
  when_unlawful Check W journal will status comes text owes = check_unlawful once one left left' W journal will status comes text owes
  when_unlawful (Make seed size) W journal will status comes text (is, rest) = cc
  when_unlawful (Drill seed size) W journal will status comes text (is, rest) = cc
  when_unlawful (Replay form) W journal will status comes text (is, rest) = cc
  when_unlawful (Run form) W journal will status comes text (is, rest) = cc
  when_unlawful Watch W journal will status comes text (is, rest) = cc
  when_unlawful Convert W journal will status comes text (is, rest) = cc
  when_unlawful (Compare one_in room) W journal will status comes text (is, rest) = cc

  when_refused : (command : Command) (W : PlainWorkload) (journal : List ℕ) → WillBeAbout command left W journal → (status : Status) → ComesTo command W journal status
      → (text : List ℕ) → RefusesJournal command left left' text → Refused ≡ status
  when_refused Check W journal will status comes text refuses = check_refused once one left left' W journal will status comes text refuses
  when_refused (Make seed size) W journal will status comes text (is, rest) = cc
  when_refused (Drill seed size) W journal will status comes text (is, rest) = cc
  when_refused (Replay form) W journal will status comes text (is, rest) = cc
  when_refused (Run form) W journal will status comes text (is, rest) = cc
  when_refused Watch W journal will status comes text (is, rest) = cc
  when_refused Convert W journal will status comes text (is, rest) = cc
  when_refused (Compare one_in room) W journal will status comes text (is, rest) = cc

  refused_so : (command : Command) (W : PlainWorkload) (journal : List ℕ) → WillBeAbout command left W journal → (status : Status) → ComesTo command W journal status
      → (text : List ℕ) → Owes command left left' Refused text → Refused ≡ status
  refused_so command W journal will status comes text (inl refused) = absurd (not_refused command left left' text W journal will refused)
  refused_so command W journal will status comes text (inr refuses) = when_refused command W journal will status comes text refuses

  module _ (asked : Option Command) (written written' : Option (List ℕ)) (source source' sink sink' : ℕ) (command : Command) (W : PlainWorkload) (journal : List ℕ) (status : Status)
      (is : asked ≡ Some command) (will : WillBeAbout command left W journal) (comes : ComesTo command W journal status) (steady : ¬ Rose source source') (still : ¬ Rose sink sink') where
    -- what is owed of words is owed of the command that they are
    of_command : (due : Status) (text : List ℕ) (other : Command) → asked ≡ Some other → Owes other left left' due text → Owes command left left' due text
    of_command due text other also owes = subst (λ (c : Command). Owes c left left' due text) (same_command asked command other is also) owes

    pub completed : (result : Status) → Ends asked left left' written written' source source' sink sink' result → (result ≡ status) ⊎ (result ≡ Memory)
    completed Done (none, (text, (other, also, owes), gains)) = inl (when_done command W journal will status comes text (of_command Done text other also owes))
    completed Unlawful (none, (text, (other, also, owes), gains)) = inl (when_unlawful command W journal will status comes text (of_command Unlawful text other also owes))
    completed Memory ends = inr refl
    completed Usage (none, (text, (isnt, read, told), gains)) =
        let both : Some command ≡ None = sym is ∙ isnt in
        cc
    completed Refused (none, (text, (other, also, owes), gains)) = inl (refused_so command W journal will status comes text (of_command Refused text other also owes))
    completed TooLong (none, (text, (other, also, owes), gains)) = absurd (not_too_long command left left' text W journal will (of_command TooLong text other also owes))
    completed ReadFault ends = absurd (steady ends.1)
    completed WriteFault ends = absurd (still ends.1)
