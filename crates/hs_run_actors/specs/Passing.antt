-- What an agent of a run needs for a pass, and what all stages of the pass make together.
use Rattle.std.specs.Prelude.{◌≡◌, ◌⊎◌, ℕ, ◌+◌, ◌≤◌, min, List, [], ◌∷◌, ◌++◌, length, map}
use Rattle.std.specs.List.{AllByRecursion}
use Rattle.hs_base.specs.declared.limits.TheConstants.{MAX_TAKEN}
use Rattle.hs_base.specs.declared.told.Ask.{Ask}
use Rattle.hs_law_journal.specs.Doings.{asks_in}
use Rattle.hs_law_journal.specs.LoopPasses.{IsStamped}
use Rattle.hs_law_agent.specs.Stepping.{Answered, Unread, Turn, AgentEvent, Took}
use Rattle.hs_records.specs.Plain.{PlainWorkload}
use Rattle.hs_run_actors.specs.Agents.{state_at}
use Rattle.hs_run_actors.specs.Intakes.{Intakes, HandOutFirst}
use Rattle.hs_run_actors.specs.Stages.{PlainWorkingAgent, WorkingAgentStands, Helping, events_from, chunks_of, stamps_of}
use Rattle.hs_run_actors.specs.Turns.{GiverGoesOn}
use Rattle.hs_run_actors.specs.Work.{NodeWork, IsFew, with_events, ask_event, gave_event}

-- The agent stands, these are its clients, and few triggers were taken.
pub record CanPass (W : PlainWorkload) (work : NodeWork) (clients : ℕ) (desk : PlainWorkingAgent) (lines : Intakes) : Type 0 where
  pub clients_are : clients ≡ W.settings.clients
  pub few : IsFew W work
  pub stands : WorkingAgentStands W work desk lines

-- the events of a pass: what was taken from the clients, the asks, a turn, and the offers
abbrev pub events_made : List Helping → List Ask → List Answered → List AgentEvent
events_made helpings asks answers = ((events_from 0 helpings ++ map ask_event asks) ++ Took Turn ∷ []) ++ map gave_event answers

pub record MakesPass (W : PlainWorkload) (work : NodeWork) (old new : Intakes) (desk : PlainWorkingAgent) : Type 0 where
  pub helpings : List Helping
  pub number : length helpings ≡ W.settings.clients
  pub chunks : HandOutFirst (map (λ (h : Helping). h.chunks) helpings) old.chunks new.chunks
  pub crumbs : HandOutFirst (map (λ (h : Helping). h.crumbs) helpings) old.crumbs new.crumbs
  pub triggers : HandOutFirst (map (λ (h : Helping). h.triggers) helpings) old.triggers new.triggers
  pub asks : List Ask
  pub few_asks : length asks ≤ MAX_TAKEN
  pub all_asks : min (length work.asked) (length (asks_in work.events) + MAX_TAKEN) ≤ length (asks_in work.events) + length asks
  pub answers : List Answered
  pub gives : GiverGoesOn old.giver new.giver (stamps_of answers)
  pub before : List Answered
  pub stamped : AllByRecursion IsStamped before
  pub ends : ((answers ≡ before) × ((state_at W (with_events (events_made helpings asks answers) (chunks_of helpings) work)).hand ≡ [])) ⊎ (answers ≡ before ++ Unread ∷ [])
  pub stands : WorkingAgentStands W (with_events (events_made helpings asks answers) (chunks_of helpings) work) desk new
