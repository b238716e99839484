-- Each agent of a journal that is followed stands as its events lead to: step by step.
use Rattle.std.proofs.Common.{ℕ, zero, suc, List, [], ◌∷◌, ◌++◌, refl, sym, ap, ◌∙◌, Option, Some, None}
use Rattle.hs_law_journal.proofs.Prelude.{option_map, AllByRecursion, range_with_len, NodeId, Message, Messages, Step, PlainJournal, AgentEvent, after_event, PlainSettings, PlainWorkload, NodeRun, Run, node_start, run_start, event_of, perform, step_of, step_node, step_lowest, message_of, hear, step_run, follow, step_count}
use Rattle.std.specs.Prelude.{map}
use Rattle.hs_law_agent.specs.Laws.{EventsGoOn}
use Rattle.hs_law_journal.specs.Laws.{ComesByEvents, AgentsComeByEvents}

-- what is there has the property
abbrev Holds : {X : Type 0} → (X → Type 0) → Option X → Type 0
Holds P None = Unit {0}
Holds P (Some x) = P x

mapped : {X Y : Type 0} (P : Y → Type 0) (f : X → Y) (o : Option X) → ((x : X) → P (f x)) → Holds P (option_map f o)
mapped P f None h = tt
mapped P f (Some x) h = h x

module _ (goes : EventsGoOn) (settings : PlainSettings) where
  performed : (rest : List Step) (run : NodeRun) (event : AgentEvent) → ComesByEvents settings run → ComesByEvents settings (perform settings rest run event)
  performed rest run event c = ap (λ state. after_event settings run.node state event) c ∙ sym (goes settings run.node run.events (event ∷ []))

  left_comes : (heard : Messages) (run : NodeRun) (left : List Step) → ComesByEvents settings run → Holds (ComesByEvents settings) (step_of settings heard run left)
  left_comes heard run [] c = tt
  left_comes heard run (step ∷ rest) c = mapped (ComesByEvents settings) (perform settings rest run) (event_of run heard step) (λ event. performed rest run event c)

  lowest_case : (run : NodeRun) (runs : List NodeRun) (o : Option NodeRun) (later : Option (List NodeRun)) → Holds (ComesByEvents settings) o → ComesByEvents settings run → AllByRecursion (ComesByEvents settings) runs
      → Holds (AllByRecursion (ComesByEvents settings)) later
      → Holds (AllByRecursion (ComesByEvents settings)) (elim o [ Some stepped ↦ Some (stepped ∷ runs) | None ↦ option_map (λ later. run ∷ later) later ])
  lowest_case run runs (Some stepped) later h c all l = (h, all)
  lowest_case run runs None None h c all l = tt
  lowest_case run runs None (Some later) h c all l = (c, l)

  lowest_comes : (heard : Messages) (runs : List NodeRun) → AllByRecursion (ComesByEvents settings) runs → Holds (AllByRecursion (ComesByEvents settings)) (step_lowest settings heard runs)
  lowest_comes heard [] all = tt
  lowest_comes heard (run ∷ runs) all =
      lowest_case run runs (step_node settings heard run) (step_lowest settings heard runs) (left_comes heard run run.left all.0) all.0 all.1 (lowest_comes heard runs all.1)

  hear_comes : (run : Run) (left : List NodeId) → AllByRecursion (ComesByEvents settings) run.nodes → Holds (λ (next : Run). AllByRecursion (ComesByEvents settings) next.nodes) (hear run left)
  hear_comes run [] all = tt
  hear_comes run (node ∷ rest) all =
      mapped (λ (next : Run). AllByRecursion (ComesByEvents settings) next.nodes) (λ (m : Message). record run { left = rest; heard = run.heard ++ m ∷ [] }) (message_of run.nodes run.heard node) (λ m. all)

  run_case : (run : Run) (o : Option (List NodeRun)) → Holds (AllByRecursion (ComesByEvents settings)) o → Holds (λ (next : Run). AllByRecursion (ComesByEvents settings) next.nodes) (hear run run.left)
      → Holds (λ (next : Run). AllByRecursion (ComesByEvents settings) next.nodes) (elim o [ Some nodes ↦ Some (record run { nodes = nodes }) | None ↦ hear run run.left ])
  run_case run (Some nodes) h other = h
  run_case run None h other = other

  run_comes : (run : Run) → AllByRecursion (ComesByEvents settings) run.nodes → Holds (λ (next : Run). AllByRecursion (ComesByEvents settings) next.nodes) (step_run settings run)
  run_comes run all = run_case run (step_lowest settings run.heard run.nodes) (lowest_comes run.heard run.nodes all) (hear_comes run run.left all)

  follow_case : (more : ℕ) (run : Run) (o : Option Run) → ((next : Run) → AllByRecursion (ComesByEvents settings) next.nodes → AllByRecursion (ComesByEvents settings) (follow more settings next).nodes)
      → Holds (λ (next : Run). AllByRecursion (ComesByEvents settings) next.nodes) o → AllByRecursion (ComesByEvents settings) run.nodes
      → AllByRecursion (ComesByEvents settings) (elim o as (λ _. Run) [ Some next ↦ follow more settings next | None ↦ run ]).nodes
  follow_case more run (Some next) on h all = on next h
  follow_case more run None on h all = all

  follow_comes : (more : ℕ) (run : Run) → AllByRecursion (ComesByEvents settings) run.nodes → AllByRecursion (ComesByEvents settings) (follow more settings run).nodes
  follow_comes zero run all = all
  follow_comes (suc more) run all = follow_case more run (step_run settings run) (follow_comes more) (run_comes run all) all

starts_come : (W : PlainWorkload) (J : PlainJournal) (nodes : List ℕ) → AllByRecursion (ComesByEvents W.settings) (map (node_start W J) nodes)
starts_come W J [] = tt
starts_come W J (node ∷ nodes) = (refl, starts_come W J nodes)

pub agents_come_by_events : EventsGoOn → AgentsComeByEvents
agents_come_by_events goes W J = follow_comes goes W.settings (step_count J) (run_start W J) (starts_come W J (range_with_len 0 W.settings.nodes))
