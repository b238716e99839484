-- From what an input has to what a command is about, and from an output to what it answers.
use Rattle.std.proofs.Common.{◌≡◌, ◌∙◌, ◌≤◌, ℕ, List, [], ◌∷◌, Option, length, sym, ap, subst, arith}
use Rattle.hs_base.specs.declared.limits.TheConstants.{MAX_INPUT}
use Rattle.hs_records.specs.Plain.{PlainWorkload}
use Rattle.hs_workload.specs.Input.{ReadWhole}
use Rattle.hs_records.specs.Journals.{PlainJournal}
use Rattle.hs_cli.specs.Answers.{IsSubject, IsFoundIn, IsAnswer, IsJudged}
use Rattle.hs_ledger.specs.declared.ledger.Totals.{Totals}
use Rattle.hs_ledger.specs.Totals.{totals_of}
use Rattle.hs_law_run.specs.Lockstep.{lockstep}
use Rattle.hs_law_outcome.specs.Outcomes.{outcome_of}
use Rattle.hs_report.specs.OutcomeText.{total_line}
use Rattle.hs_text.specs.Text.{text_of}
use Rattle.hs_cli.specs.Endings.{IsReader, IsAbout, AreParts, Due, drill_text}
use Rattle.hs_cli.specs.declared.answer.Subject.{Subject}
use Rattle.hs_cli.specs.declared.answer.Subject.TheVariants.{Found, Refused, TooLong, Fault, NoMemory}
use Rattle.hs_cli.specs.declared.command.Command.{Command}
use Rattle.hs_cli.specs.declared.command.Command.TheVariants.{Replay, Run, Watch, Convert, Make, Drill, Check, Compare}
use Rattle.hs_workload.specs.declared.status.Status.{Status}
use Rattle.hs_workload.specs.declared.status.Status.TheVariants.{Done}

-- a command that read its input is about what stands in it
about_parts : (command : Command) (left left' : Option (List ℕ)) (input : List ℕ) (W : PlainWorkload) (journal : List ℕ) → IsReader command → ReadWhole left left' input
    → AreParts command input W journal → IsAbout command left left' W journal
about_parts (Make seed size) left left' input W journal reader whole parts = absurd reader
about_parts (Drill seed size) left left' input W journal reader whole parts = absurd reader
about_parts (Replay form) left left' input W journal reader whole parts = (input, whole, parts)
about_parts (Run form) left left' input W journal reader whole parts = (input, whole, parts)
about_parts Watch left left' input W journal reader whole parts = (input, whole, parts)
about_parts Convert left left' input W journal reader whole parts = (input, whole, parts)
about_parts (Compare one_in room) left left' input W journal reader whole parts = (input, whole, parts)
about_parts Check left left' input W journal reader whole parts = (input, whole, parts)

-- what stands in an input that was read whole
pub found_whole : (command : Command) (left left' : Option (List ℕ)) (faults faults' : ℕ) (input : List ℕ) (subject : Subject) → IsReader command → ReadWhole left left' input
    → faults' ≡ faults → IsFoundIn command input subject → IsSubject command left left' faults faults' subject
found_whole command left left' faults faults' input (Found workload journal) reader whole still (parts, within) =
    let short : length journal.items ≤ MAX_INPUT = omega (arith, within, whole.short) in
    (about_parts command left left' input _ _ reader whole parts, parts.0.valid, short, still)
found_whole command left left' faults faults' input (Refused text) reader whole still refused = ((reader, (input, whole, refused)), still)
found_whole command left left' faults faults' input TooLong reader whole still none = absurd none
found_whole command left left' faults faults' input Fault reader whole still none = absurd none
found_whole command left left' faults faults' input NoMemory reader whole still none = still

-- what is due is answered
pub done_answers : (command same : Command) (W : PlainWorkload) (journal : List ℕ) (status : Status) (out text : List ℕ) → command ≡ same → status ≡ Done → out ≡ text
    → Due same W journal text → IsAnswer command W journal status out
done_answers command same W journal status out text is done told due =
    subst (λ (s : Status). IsAnswer command W journal s out) (sym done)
    (subst (λ (t : List ℕ). Due command W journal t) (sym told) (subst (λ (c : Command). Due c W journal text) (sym is) due))

-- an answer by its status and its text
pub answered_as : (command : Command) (W : PlainWorkload) (journal : List ℕ) (status same : Status) (out text : List ℕ) → status ≡ same → out ≡ text
    → IsAnswer command W journal same text → IsAnswer command W journal status out
answered_as command W journal status same out text is told answer =
    subst (λ (s : Status). IsAnswer command W journal s out) (sym is) (subst (λ (t : List ℕ). IsAnswer command W journal same t) (sym told) answer)

-- what a drill prints, by the totals of its outcome
pub drill_is : (W : PlainWorkload) (totals : Totals) (text : List ℕ) → totals ≡ totals_of (outcome_of W (lockstep W)).entries → text ≡ text_of (total_line totals ∷ []) → text ≡ drill_text W
drill_is W totals text same is = is ∙ ap (λ (t : Totals). text_of (total_line t ∷ [])) same

-- a verdict by its status and its text
pub judged_as : (W : PlainWorkload) (J : PlainJournal) (status same : Status) (out text : List ℕ) → status ≡ same → out ≡ text → IsJudged W J same text → IsJudged W J status out
judged_as W J status same out text is told judged =
    subst (λ (s : Status). IsJudged W J s out) (sym is) (subst (λ (t : List ℕ). IsJudged W J same t) (sym told) judged)
