-- Steps and messages, performed one after another.
use Rattle.std.proofs.Common.{◌≡◌, List, [], ◌∷◌, ◌++◌, refl, Option, Some, None}
use Rattle.hs_law_journal.proofs.Prelude.{option_and_then, NodeId, Message, Messages, Step, PlainSettings, NodeRun, message_of}
use Rattle.hs_law_journal.proofs.Logs.{behind_more}
use Rattle.hs_law_journal.specs.Performing.{after_step, after_steps, after_names, StepByStep}

pub steps_on : (settings : PlainSettings) (heard : Messages) (steps more : List Step) (run : NodeRun)
    → after_steps settings heard (steps ++ more) run ≡ option_and_then (after_steps settings heard more) (after_steps settings heard steps run)
steps_on settings heard [] more run = refl
steps_on settings heard (step ∷ steps) more run = on (after_step settings heard step run) (steps_on settings heard steps more)
  where
    on : (o : Option NodeRun) → ((next : NodeRun) → after_steps settings heard (steps ++ more) next ≡ option_and_then (after_steps settings heard more) (after_steps settings heard steps next))
        → option_and_then (after_steps settings heard (steps ++ more)) o ≡ option_and_then (after_steps settings heard more) (option_and_then (after_steps settings heard steps) o)
    on None each = refl
    on (Some next) each = each next

names_on : (runs : List NodeRun) (names more : List NodeId) (heard : Messages) → after_names runs (names ++ more) heard ≡ option_and_then (after_names runs more) (after_names runs names heard)
names_on runs [] more heard = refl
names_on runs (name ∷ names) more heard = on (message_of runs heard name) (names_on runs names more)
  where
    on : (o : Option Message) → ((heard : Messages) → after_names runs (names ++ more) heard ≡ option_and_then (after_names runs more) (after_names runs names heard))
        → option_and_then (λ m. after_names runs (names ++ more) (heard ++ m ∷ [])) o ≡ option_and_then (after_names runs more) (option_and_then (λ m. after_names runs names (heard ++ m ∷ [])) o)
    on None each = refl
    on (Some m) each = each (heard ++ m ∷ [])

pub step_by_step : StepByStep
step_by_step = record { steps = steps_on; names = names_on; asks = λ node heard m. behind_more node [] heard m }
