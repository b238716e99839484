-- What performed steps add to a node: an event for each step, and the steps to its log.
use Rattle.std.proofs.Common.{◌≡◌, List, length, drop, [], ◌∷◌, ◌++◌, append-nil, append_assoc, sym, ap, subst, ◌∙◌, Some, refl, map}
use Rattle.hs_law_run.proofs.Prelude.{same_Some, Messages, Step, EventsAddThis, noted_as, AgentEvent, PlainSettings, NodeRun, perform, after_steps}
use Rattle.hs_base.proofs.Parts.{drop_front}
use Rattle.hs_law_journal.proofs.Extending.{noted_step}
use Rattle.hs_law_run.proofs.Performed.{first_of_steps}

pub record Came (steps : List Step) (run later : NodeRun) : Type 0 where
  pub new : List AgentEvent
  pub events : later.events ≡ run.events ++ new
  pub noted : map noted_as new ≡ steps
  pub log : later.state.log ≡ run.state.log ++ steps

pub came : EventsAddThis → (settings : PlainSettings) (heard : Messages) (steps : List Step) (run later : NodeRun) → after_steps settings heard steps run ≡ Some later → Came steps run later
came adds settings heard [] run later e = subst (Came [] run) (same_Some run later e) (record { new = []; events = sym (append-nil run.events); noted = refl; log = sym (append-nil run.state.log) })
came adds settings heard (step ∷ rest) run later e =
    let f = first_of_steps settings heard step rest run later e in
    let on = came adds settings heard rest (perform settings [] run f.event) later f.on in
    let noted = noted_step run heard f.event step f.met in
    record {
      new = f.event ∷ on.new;
      events = on.events ∙ append_assoc run.events (f.event ∷ []) on.new;
      noted = ap (λ (s : Step). s ∷ map noted_as on.new) noted ∙ ap (λ (rest : List Step). step ∷ rest) on.noted;
      log =
          on.log
          ∙ ap (λ (log : List Step). log ++ rest) ((adds settings run.node run.state).log f.event ∙ ap (λ (s : Step). run.state.log ++ s ∷ []) noted)
          ∙ append_assoc run.state.log (step ∷ []) rest;
    }

pub added_is : {X : Type 0} (xs ys new : List X) → ys ≡ xs ++ new → drop (length xs) ys ≡ new
added_is xs ys new e = ap (drop (length xs)) e ∙ drop_front xs new
