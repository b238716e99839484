-- A text that is due, written whole or in front, ends the call with its status.
use Rattle.std.proofs.Common.{◌≡◌, ℕ, List, Option, ◌⊎◌, inl, inr, sym, subst}
use Rattle.hs_base.specs.Outside.{Rose, Gains}
use Rattle.hs_workload.specs.Input.{ReadWhole}
use Rattle.hs_workload.specs.Written.{GainsFront}
use Rattle.hs_workload.specs.declared.status.Status.{Status}
use Rattle.hs_workload.specs.declared.status.Status.TheVariants.{Done, Usage, Refused, ReadFault, WriteFault, Memory, TooLong, Unlawful}
use Rattle.hs_workload.specs.Statuses.{NoneFailed}
use Rattle.replay.specs.Endings.{IsAnswer, IsDue, Ends}

-- what `finish` answers
abbrev pub Finishes : Status → List ℕ → Option (List ℕ) → Option (List ℕ) → ℕ → ℕ → Status → Type 0
Finishes due text written written' sink sink' result =
    (result ≡ due × (sink' ≡ sink) × Gains written written' text) ⊎ (result ≡ WriteFault × Rose sink sink' × GainsFront written written' text)

-- what is answered for an input that was read whole is due
pub due_whole : (left left' : Option (List ℕ)) (input : List ℕ) → ReadWhole left left' input → (status : Status) (text : List ℕ) → IsAnswer input status text → IsDue left left' status text
due_whole left left' input whole Done text answer = (input, whole, answer)
due_whole left left' input whole Refused text answer = (input, whole, answer)
due_whole left left' input whole Usage text answer = absurd answer
due_whole left left' input whole ReadFault text answer = absurd answer
due_whole left left' input whole WriteFault text answer = absurd answer
due_whole left left' input whole Memory text answer = absurd answer
due_whole left left' input whole TooLong text answer = absurd answer
due_whole left left' input whole Unlawful text answer = absurd answer

module _ (left left' written written' : Option (List ℕ)) (source source' sink sink' : ℕ) where
  ended : (due : Status) (text : List ℕ) → IsDue left left' due text → Gains written written' text → NoneFailed source source' sink sink' → Ends left left' written written' source source' sink sink' due
  ended Done text due gains none = (none, (text, due, gains))
  ended Refused text due gains none = (none, (text, due, gains))
  ended TooLong text due gains none = (none, (text, due, gains))
  ended Usage text (input, whole, answer) gains none = absurd answer
  ended ReadFault text (input, whole, answer) gains none = absurd answer
  ended WriteFault text (input, whole, answer) gains none = absurd answer
  ended Memory text (input, whole, answer) gains none = absurd answer
  ended Unlawful text (input, whole, answer) gains none = absurd answer

  pub finished : (due result : Status) (text : List ℕ) → IsDue left left' due text → source' ≡ source
      → Finishes due text written written' sink sink' result → Ends left left' written written' source source' sink sink' result
  finished due result text is read (inl (e, wrote, gains)) =
      subst (λ (s : Status). Ends left left' written written' source source' sink sink' s) (sym e) (ended due text is gains (read, wrote))
  finished due result text is read (inr (e, rose, front)) =
      subst (λ (s : Status). Ends left left' written written' source source' sink sink' s) (sym e) (read, rose, (due, text, is, front))
