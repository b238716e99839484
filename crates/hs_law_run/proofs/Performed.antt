-- A node that walks through all its steps comes to where these steps lead when they are performed one after another, with nothing left.
use Rattle.std.proofs.Common.{◌≡◌, List, [], ◌∷◌, refl, sym, ap, subst, ◌∙◌, Option, Some, None, option_map}
use Rattle.hs_law_run.proofs.Prelude.{option_and_then, same_Some, Messages, Step, AgentEvent, PlainSettings, NodeRun, event_of, perform, after_steps}
use Rattle.hs_records.specs.declared.journal.Step.TheVariants as steps
use Rattle.hs_law_journal.proofs.Steps.{step_from}
use Rattle.hs_law_run.proofs.Walks.{Walks, Walked, IsThrough, Stands, Steps, step_is}

-- the node with nothing left
abbrev pub bare : NodeRun → NodeRun
bare run = record run { left = [] }

-- what is left of a log is none of a step's business
pub bare_event : (run : NodeRun) (heard : Messages) (step : Step) → event_of (bare run) heard step ≡ event_of run heard step
bare_event run heard (steps.Chunk client) = refl
bare_event run heard (steps.Crumb client) = refl
bare_event run heard (steps.Trigger client) = refl
bare_event run heard steps.Ask = refl
bare_event run heard steps.Turn = refl
bare_event run heard (steps.Given stamp) = refl
bare_event run heard (steps.Missed stamp) = refl
bare_event run heard steps.Unread = refl

pub bare_is : (run : NodeRun) → run.left ≡ [] → bare run ≡ run
bare_is run e = ap (λ (left : List Step). record run { left = left }) (sym e)

-- one step first
pub first_step : (settings : PlainSettings) (heard : Messages) (step : Step) (rest : List Step) (run : NodeRun) (event : AgentEvent) → event_of run heard step ≡ Some event
    → after_steps settings heard (step ∷ rest) run ≡ after_steps settings heard rest (perform settings [] run event)
first_step settings heard step rest run event met = ap (λ o. option_and_then (after_steps settings heard rest) (option_map (perform settings [] run) o)) met

-- and back: what steps come to is what the others come to behind the first
pub record IsFirst (settings : PlainSettings) (heard : Messages) (step : Step) (rest : List Step) (run later : NodeRun) : Type 0 where
  pub event : AgentEvent
  pub met : event_of run heard step ≡ Some event
  pub on : after_steps settings heard rest (perform settings [] run event) ≡ Some later

pub first_of_steps : (settings : PlainSettings) (heard : Messages) (step : Step) (rest : List Step) (run later : NodeRun) → after_steps settings heard (step ∷ rest) run ≡ Some later → IsFirst settings heard step rest run later
first_of_steps settings heard step rest run later h = go (event_of run heard step) refl h
  where
    go : (o : Option AgentEvent) → event_of run heard step ≡ o → option_and_then (after_steps settings heard rest) (option_map (perform settings [] run) o) ≡ Some later → IsFirst settings heard step rest run later
    go None e h = let never : None ≡ Some later = h in absurd cc
    go (Some event) e h = record { event = event; met = e; on = h }

pub walk_performed : (settings : PlainSettings) (heard : Messages) (run last : NodeRun) → Walks settings heard run last → last.left ≡ [] → after_steps settings heard run.left (bare run) ≡ Some last
walk_performed settings heard run last (Stands r) e = ap (λ (left : List Step). after_steps settings heard left (bare r)) e ∙ ap Some (bare_is r e)
walk_performed settings heard run last (Steps r next l h walks) e =
    let s = step_from settings heard r next h in
    ap (λ (left : List Step). after_steps settings heard left (bare r)) s.left
    ∙ first_step settings heard s.step s.rest (bare r) s.event (bare_event r heard s.step ∙ s.met)
    ∙ ap (λ (n : NodeRun). after_steps settings heard n.left (bare n)) (sym s.is)
    ∙ walk_performed settings heard next last walks e

-- and back: where steps lead when they are performed, a node with these left walks through
pub performed_walk : (settings : PlainSettings) (heard : Messages) (left : List Step) (run last : NodeRun) → run.left ≡ left → after_steps settings heard left (bare run) ≡ Some last → Walked settings heard IsThrough run
performed_walk settings heard [] run last e h = record { last = run; walks = Stands run; ends = e }
performed_walk settings heard (step ∷ rest) run last e h =
    let f = first_of_steps settings heard step rest (bare run) last h in
    let next = perform settings rest run f.event in
    let stepped = step_is settings heard run step rest f.event e (sym (bare_event run heard step) ∙ f.met) in
    let w = performed_walk settings heard rest next last refl f.on in
    record { last = w.last; walks = Steps run next w.last stepped w.walks; ends = w.ends }

-- what steps leave of a node as it was
pub record IsKept (run later : NodeRun) : Type 0 where
  pub number : later.node ≡ run.node
  pub sends : later.sends ≡ run.sends

pub steps_keep : (settings : PlainSettings) (heard : Messages) (steps : List Step) (run later : NodeRun) → after_steps settings heard steps run ≡ Some later → IsKept run later
steps_keep settings heard [] run later e = subst (IsKept run) (same_Some run later e) (record { number = refl; sends = refl })
steps_keep settings heard (step ∷ rest) run later e =
    let f = first_of_steps settings heard step rest run later e in
    let on = steps_keep settings heard rest (perform settings [] run f.event) later f.on in
    record { number = on.number; sends = on.sends }

-- a walk keeps the number of its node
pub walk_number : (settings : PlainSettings) (heard : Messages) (run last : NodeRun) → Walks settings heard run last → last.node ≡ run.node
walk_number settings heard run last (Stands r) = refl
walk_number settings heard run last (Steps r next l h walks) = walk_number settings heard next last walks ∙ ap (λ (n : NodeRun). n.node) (step_from settings heard r next h).is
