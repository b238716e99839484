-- The runs of an agent after inputs that it took whole.
use Rattle.std.specs.Prelude.{ℕ, [], ◌∷◌, ◌++◌}
use Rattle.hs_base.specs.declared.told.Ask.{Ask}
use Rattle.hs_base.specs.declared.told.Crumb.{Crumb}
use Rattle.hs_base.specs.declared.told.Trigger.{Trigger}
use Rattle.hs_law_agent.specs.Stepping.{Took}
use Rattle.hs_law_agent.specs.Stepping as model
use Rattle.hs_agent.specs.Runs.{AgentRun}

-- the run after a crumb of a client
abbrev pub after_crumb : {L : Type 0} → AgentRun L → ℕ → Crumb → AgentRun L
after_crumb run client crumb = record run { events = run.events ++ Took (model.Crumbed client crumb) ∷ [] }

-- after a trigger of a client, and after an ask
abbrev pub after_trigger : {L : Type 0} → AgentRun L → ℕ → Trigger → AgentRun L
after_trigger run client trigger = record run { events = run.events ++ Took (model.Triggered client trigger) ∷ [] }

abbrev pub after_ask : {L : Type 0} → AgentRun L → Ask → AgentRun L
after_ask run ask = record run { events = run.events ++ Took (model.Asked ask) ∷ [] }
