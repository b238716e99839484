-- A step that is ready at a node, taken apart, and what it leaves alone: the node's name, what its clients send, and the messages
-- that its agent said before. More messages heard make no step less ready.
use Rattle.std.proofs.Common.{◌≡◌, ℕ, List, [], ◌∷◌, ◌++◌, refl, sym, ap, ◌∙◌, Option, Some, None, append_assoc, append-nil, option_map, slice_get}
use Rattle.hs_law_journal.proofs.Prelude.{option_to_list, get_front, mapped_from, NodeId, Ask, Told, Message, Messages, Step, StepsSayWhatTheyTell, AgentState, AgentEvent, Took, Gave, Asked, told_by, after_event, PlainSettings, Asks, taken, ask_by, asks_behind, asks_to, NodeRun, Run, event_of, perform, step_of, step_node, message_of, hear}
use Rattle.hs_records.specs.declared.journal.Step.TheVariants as steps

-- ---- options

mapped_on : {X Y : Type 0} (f : X → Y) (o more : Option X) (y : Y) → ((x : X) → o ≡ Some x → more ≡ Some x) → option_map f o ≡ Some y → option_map f more ≡ Some y
mapped_on f o more y on h = let m = mapped_from f o y h in ap (option_map f) (on m.item m.there) ∙ ap Some (sym m.is)

-- ---- asks

pub asks_more : (node : ℕ) (before a b : Messages) → asks_behind node before (a ++ b) ≡ asks_behind node before a ++ asks_behind node (before ++ a) b
asks_more node before [] b = ap (λ front. asks_behind node front b) (sym (append-nil before))
asks_more node before (m ∷ a) b =
    ap (λ later. ask_by node before m ++ later) (asks_more node (before ++ m ∷ []) a b)
    ∙ ap (λ front. ask_by node before m ++ (asks_behind node (before ++ m ∷ []) a ++ asks_behind node front b)) (append_assoc before (m ∷ []) a)
    ∙ sym (append_assoc (ask_by node before m) (asks_behind node (before ++ m ∷ []) a) (asks_behind node (before ++ m ∷ a) b))

ask_stays : (node : ℕ) (heard more : Messages) (place : ℕ) (ask : Ask) → slice_get (asks_to node heard) place ≡ Some ask → slice_get (asks_to node (heard ++ more)) place ≡ Some ask
ask_stays node heard more place ask h =
    ap (λ asks. slice_get asks place) (asks_more node [] heard more) ∙ get_front (asks_to node heard) (asks_behind node heard more) place ask h

-- ---- a node's step

pub event_stays : (run : NodeRun) (heard more : Messages) (step : Step) (event : AgentEvent) → event_of run heard step ≡ Some event → event_of run (heard ++ more) step ≡ Some event
event_stays run heard more (steps.Chunk client) event h = h
event_stays run heard more (steps.Crumb client) event h = h
event_stays run heard more (steps.Trigger client) event h = h
event_stays run heard more steps.Ask event h =
    mapped_on (λ ask. Took (Asked ask)) (slice_get (asks_to run.node heard) (taken Asks run.state.log)) (slice_get (asks_to run.node (heard ++ more)) (taken Asks run.state.log)) event
    (λ ask there. ask_stays run.node heard more (taken Asks run.state.log) ask there) h
event_stays run heard more steps.Turn event h = h
event_stays run heard more (steps.Given stamp) event h = h
event_stays run heard more (steps.Missed stamp) event h = h
event_stays run heard more steps.Unread event h = h

-- a node's step: what was next in its log, and the event that it was
pub record IsStep (settings : PlainSettings) (heard : Messages) (run stepped : NodeRun) : Type 0 where
  pub step : Step
  pub rest : List Step
  pub event : AgentEvent
  pub left : run.left ≡ step ∷ rest
  pub met : event_of run heard step ≡ Some event
  pub is : stepped ≡ perform settings rest run event

module _ (settings : PlainSettings) where
  left_from : (heard : Messages) (run stepped : NodeRun) (left : List Step) → run.left ≡ left → step_of settings heard run left ≡ Some stepped → IsStep settings heard run stepped
  left_from heard run stepped [] e h = let no : None ≡ Some stepped = h in absurd cc
  left_from heard run stepped (step ∷ rest) e h =
      let m = mapped_from (perform settings rest run) (event_of run heard step) stepped h in
      record { step = step; rest = rest; event = m.item; left = e; met = m.there; is = m.is }

  pub step_from : (heard : Messages) (run stepped : NodeRun) → step_node settings heard run ≡ Some stepped → IsStep settings heard run stepped
  step_from heard run stepped h = left_from heard run stepped run.left refl h

  pub step_to : (heard : Messages) (run stepped : NodeRun) → IsStep settings heard run stepped → step_node settings heard run ≡ Some stepped
  step_to heard run stepped s =
      ap (step_of settings heard run) s.left ∙ ap (option_map (perform settings s.rest run)) s.met ∙ ap Some (sym s.is)

  -- a node's step stays ready
  pub step_stays : (heard more : Messages) (run stepped : NodeRun) → step_node settings heard run ≡ Some stepped → step_node settings (heard ++ more) run ≡ Some stepped
  step_stays heard more run stepped h =
      let s = step_from heard run stepped h in
      step_to (heard ++ more) run stepped
      (record { step = s.step; rest = s.rest; event = s.event; left = s.left; met = event_stays run heard more s.step s.event s.met; is = s.is })

  -- what an event adds to the messages
  abbrev said_by : ℕ → AgentState → AgentEvent → List Told
  said_by node state (Took input) = option_to_list (told_by settings node state input)
  said_by node state (Gave answer) = []

  event_says : StepsSayWhatTheyTell → (node : ℕ) (state : AgentState) (event : AgentEvent) → (after_event settings node state event).said ≡ state.said ++ said_by node state event
  event_says says node state (Took input) = (says settings node state).inputs input
  event_says says node state (Gave answer) = (says settings node state).answers answer ∙ sym (append-nil state.said)

  -- what was said is said behind a step too
  pub said_stays : StepsSayWhatTheyTell → (heard : Messages) (run stepped : NodeRun) (place : ℕ) (told : Told) → step_node settings heard run ≡ Some stepped
      → slice_get run.state.said place ≡ Some told → slice_get stepped.state.said place ≡ Some told
  said_stays says heard run stepped place told h there =
      let s = step_from heard run stepped h in
      ap (λ (node : NodeRun). slice_get node.state.said place) s.is
      ∙ ap (λ said. slice_get said place) (event_says says run.node run.state s.event)
      ∙ get_front run.state.said (said_by run.node run.state s.event) place told there

-- ---- the coordinator's step

-- what the coordinator took
pub record IsHeard (run next : Run) : Type 0 where
  pub node : NodeId
  pub rest : List NodeId
  pub heard : Message
  pub left : run.left ≡ node ∷ rest
  pub told : message_of run.nodes run.heard node ≡ Some heard
  pub is : next ≡ record run { left = rest; heard = run.heard ++ heard ∷ [] }

heard_case : (run next : Run) (left : List NodeId) → run.left ≡ left → hear run left ≡ Some next → IsHeard run next
heard_case run next [] e h = let no : None ≡ Some next = h in absurd cc
heard_case run next (node ∷ rest) e h =
    let m = mapped_from (λ (m : Message). record run { left = rest; heard = run.heard ++ m ∷ [] }) (message_of run.nodes run.heard node) next h in
    record { node = node; rest = rest; heard = m.item; left = e; told = m.there; is = m.is }

pub heard_from : (run next : Run) → hear run run.left ≡ Some next → IsHeard run next
heard_from run next h = heard_case run next run.left refl h

pub heard_to : (run next : Run) → IsHeard run next → hear run run.left ≡ Some next
heard_to run next s =
    ap (hear run) s.left ∙ ap (option_map (λ (m : Message). record run { left = s.rest; heard = run.heard ++ m ∷ [] })) s.told ∙ ap Some (sym s.is)
