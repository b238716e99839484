-- Steps of one node, performed one after another while all else stands still, and messages that are heard one after another. What a
-- node comes to so depends on the node and on the messages that were heard, and on nothing else.
use Rattle.std.specs.Prelude.{◌≡◌, ℕ, List, [], ◌∷◌, ◌++◌, Option, Some, option_map}
use Rattle.std.specs.Option.{option_and_then}
use Rattle.hs_base.specs.declared.ids.NodeId.{NodeId}
use Rattle.hs_coord.specs.Following.{Message, Messages}
use Rattle.hs_records.specs.declared.journal.Step.{Step}
use Rattle.hs_records.specs.Plain.{PlainSettings}
use Rattle.hs_law_journal.specs.Following.{NodeRun, event_of, perform, message_of, asks_to, ask_by}

-- the node behind a step, where that is ready; nothing is left of its log then
abbrev pub after_step : PlainSettings → Messages → Step → NodeRun → Option NodeRun
after_step settings heard step run = option_map (perform settings [] run) (event_of run heard step)

-- and behind these steps, where each is ready when its turn comes
abbrev pub after_steps : PlainSettings → Messages → List Step → NodeRun → Option NodeRun
after_steps settings heard [] run = Some run
after_steps settings heard (step ∷ steps) run = option_and_then (after_steps settings heard steps) (after_step settings heard step run)

-- the messages that were heard when each of these nodes told its next one, in turn
abbrev pub after_names : List NodeRun → List NodeId → Messages → Option Messages
after_names runs [] heard = Some heard
after_names runs (name ∷ names) heard = option_and_then (λ m. after_names runs names (heard ++ m ∷ [])) (message_of runs heard name)

-- Some of the steps can be performed first, and the others behind them; and so with messages. A message more sends the asks to which
-- it leads, behind those that were sent.
pub record StepByStep : Type 0 where
  pub steps : (settings : PlainSettings) (heard : Messages) (steps more : List Step) (run : NodeRun)
      → after_steps settings heard (steps ++ more) run ≡ option_and_then (after_steps settings heard more) (after_steps settings heard steps run)
  pub names : (runs : List NodeRun) (names more : List NodeId) (heard : Messages)
      → after_names runs (names ++ more) heard ≡ option_and_then (after_names runs more) (after_names runs names heard)
  pub asks : (node : ℕ) (heard : Messages) (m : Message) → asks_to node (heard ++ m ∷ []) ≡ asks_to node heard ++ ask_by node heard m
