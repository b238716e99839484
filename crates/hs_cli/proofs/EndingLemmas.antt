-- A text that a command owes, written whole or in front, ends the call with its status.
use Rattle.std.proofs.Common.{◌≡◌, ℕ, List, Option, Some, ◌⊎◌, inl, inr, refl, sym, subst}
use Rattle.hs_base.specs.Outside.{Rose, Gains}
use Rattle.hs_records.specs.Plain.{PlainWorkload}
use Rattle.hs_workload.specs.Written.{GainsFront}
use Rattle.hs_cli.specs.Answers.{IsAnswer}
use Rattle.hs_cli.specs.Endings.{IsAbout, Owes, IsDue, EndsWith, Ends}
use Rattle.hs_cli.specs.declared.command.Command.{Command}
use Rattle.hs_workload.specs.declared.status.Status.{Status}
use Rattle.hs_workload.specs.declared.status.Status.TheVariants.{Done, Usage, Refused, ReadFault, WriteFault, Memory, TooLong, Unlawful}
use Rattle.hs_workload.specs.Statuses.{NoneFailed}

-- what `finish` answers
abbrev pub Finishes : Status → List ℕ → Option (List ℕ) → Option (List ℕ) → ℕ → ℕ → Status → Type 0
Finishes due text written written' sink sink' result =
    (result ≡ due × (sink' ≡ sink) × Gains written written' text) ⊎ (result ≡ WriteFault × Rose sink sink' × GainsFront written written' text)

module _ (command : Command) (left left' : Option (List ℕ)) where
  -- what a command answers it owes
  pub answered : (status : Status) (text : List ℕ) (W : PlainWorkload) (journal : List ℕ) → IsAbout command left left' W journal → IsAnswer command W journal status text → Owes command left left' status text
  answered Done text W journal about due = (W, journal, about, due)
  answered Refused text W journal about (is, refused) = inr (is, (W, journal, subst (λ (c : Command). IsAbout c left left' W journal) is about, refused))
  answered Unlawful text W journal about (is, unlawful) = (is, (W, journal, subst (λ (c : Command). IsAbout c left left' W journal) is about, unlawful))
  answered Usage text W journal about answer = absurd answer
  answered ReadFault text W journal about answer = absurd answer
  answered WriteFault text W journal about answer = absurd answer
  answered Memory text W journal about answer = absurd answer
  answered TooLong text W journal about answer = absurd answer

module _ (command : Command) (left left' written written' : Option (List ℕ)) (source source' sink sink' : ℕ) where
  ended : (due : Status) (text : List ℕ) → Owes command left left' due text → Gains written written' text → NoneFailed source source' sink sink' → EndsWith command left left' written written' source source' sink sink' due
  ended Done text owes gains none = (none, (text, owes, gains))
  ended Refused text owes gains none = (none, (text, owes, gains))
  ended TooLong text owes gains none = (none, (text, owes, gains))
  ended Unlawful text owes gains none = (none, (text, owes, gains))
  ended Usage text owes gains none = absurd owes
  ended ReadFault text owes gains none = absurd owes
  ended WriteFault text owes gains none = absurd owes
  ended Memory text owes gains none = absurd owes

  pub finished : (due result : Status) (text : List ℕ) → Owes command left left' due text → source' ≡ source
      → Finishes due text written written' sink sink' result → EndsWith command left left' written written' source source' sink sink' result
  finished due result text owes read (inl (e, wrote, gains)) =
      subst (λ (s : Status). EndsWith command left left' written written' source source' sink sink' s) (sym e) (ended due text owes gains (read, wrote))
  finished due result text owes read (inr (e, rose, front)) =
      subst (λ (s : Status). EndsWith command left left' written written' source source' sink sink' s) (sym e) (read, rose, (due, text, owes, front))

  -- words that are the command
  module _ (asked : Option Command) (is : asked ≡ Some command) where
    due_of : (status : Status) (text : List ℕ) → Owes command left left' status text → IsDue asked left left' status text
    due_of Done text owes = (command, is, owes)
    due_of Refused text owes = (command, is, owes)
    due_of TooLong text owes = (command, is, owes)
    due_of Unlawful text owes = (command, is, owes)
    due_of Usage text owes = absurd owes
    due_of ReadFault text owes = absurd owes
    due_of WriteFault text owes = absurd owes
    due_of Memory text owes = absurd owes

    pub worded : (result : Status) → EndsWith command left left' written written' source source' sink sink' result → Ends asked left left' written written' source source' sink sink' result
    worded Done (none, (text, owes, gains)) = (none, (text, (command, is, owes), gains))
    worded Refused (none, (text, owes, gains)) = (none, (text, (command, is, owes), gains))
    worded TooLong (none, (text, owes, gains)) = (none, (text, (command, is, owes), gains))
    worded Unlawful (none, (text, owes, gains)) = (none, (text, (command, is, owes), gains))
    worded Usage (none, (text, owes, gains)) = absurd owes
    worded ReadFault (reader, rose, still, same, front) = ((command, is, reader), rose, still, same, front)
    worded WriteFault (read, rose, (status, text, owes, front)) = (read, rose, (status, text, due_of status text owes, front))
    worded Memory ends = ends

-- words that are none
pub finished_usage : (asked : Option Command) (left written written' : Option (List ℕ)) (source sink sink' : ℕ) (result : Status) (text : List ℕ) → IsDue asked left left Usage text
    → Finishes Usage text written written' sink sink' result → Ends asked left left written written' source source sink sink' result
finished_usage asked left written written' source sink sink' result text due (inl (e, wrote, gains)) =
    subst (λ (s : Status). Ends asked left left written written' source source sink sink' s) (sym e) ((refl, wrote), (text, due, gains))
finished_usage asked left written written' source sink sink' result text due (inr (e, rose, front)) =
    subst (λ (s : Status). Ends asked left left written written' source source sink sink' s) (sym e) (refl, rose, (Usage, text, due, front))
