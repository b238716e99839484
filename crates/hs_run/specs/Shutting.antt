-- Nodes whose links are closed, and the coordinator, in the passes behind the rounds.
use Rattle.std.specs.Prelude.{◌≡◌, ◌⊎◌, ℕ, ◌+◌, ◌<◌, ◌≤◌, min, true, false, List, [], ◌++◌, length, slice_get, Some}
use Rattle.std.specs.Option.{option_map_or}
use Rattle.hs_base.specs.declared.limits.TheConstants.{MAX_TAKEN, MAX_NODES}
use Rattle.hs_coord.specs.Messages.{Messages}
use Rattle.hs_coord.specs.declared.asks.Asks.{Asks}
use Rattle.hs_link.specs.Contents.{sent}
use Rattle.hs_law_agent.specs.Stepping.{AgentEvent}
use Rattle.hs_records.specs.Plain.{PlainWorkload}
use Rattle.hs_ring.specs.Parts.{Leased, Giving}
use Rattle.hs_words.specs.Buffers.{Buffer}
use Rattle.hs_records.specs.Validity.{IsValid}
use Rattle.hs_law_journal.specs.Doings.{asks_in, crumbs_in, triggers_in, steps_of}
use Rattle.hs_law_journal.specs.LoopPasses.{EndsPass}
use Rattle.hs_law_journal.specs.Shape.{log_stamps}
use Rattle.hs_run_actors.specs.ClientActors.{PlainClientActor}
use Rattle.hs_run_actors.specs.Coordinators.{PlainCoordinatorActor, IsCoordinatorActor, AllAskable, all_empty, asks_for}
use Rattle.hs_run_actors.specs.AgentActors.{IsAgentActor}
use Rattle.hs_run_actors.specs.ClosedAgents.{PlainClosedAgent, AllSent, IsClosedAgent, IsClosedAgentBare}
use Rattle.hs_run_actors.specs.Turns.{GiverGoesOn}
use Rattle.hs_run_actors.specs.Work.{NodeWork, IsFew, came_of, with_asks, with_events}
use Rattle.hs_run_actors.specs.Agents.{state_at}
use Rattle.hs_run.specs.RunStates.{PlainNodeActors, RunState, moved_by, asked_by}
use Rattle.hs_run.specs.Moving.{IsSameDoing}
use Rattle.hs_run.specs.Spans.{NodeBetweenPasses}
use Rattle.hs_run.specs.Closing.{Closing}
use Rattle.hs_run.specs.Changing.{EachChanged}
use Rattle.hs_run.specs.Ended.{sents_of}

-- what the clients of each node sent
abbrev pub AllSents : Type 0
AllSents = ℕ → AllSent

-- ---- one node

-- The node with this number stands so, and did this work.
pub record IsClosedAgentAt (W : PlainWorkload) (node : ℕ) (sents : AllSents) (work : NodeWork) (shut : PlainClosedAgent) : Type 0 where
  pub node_is : work.node ≡ node
  pub is : IsClosedAgent W work (sents node) shut

-- No more triggers are taken, whatever is done, than a workload has.
abbrev pub ClosingAreFew : PlainWorkload → AllSents → Type 0
ClosingAreFew W sents = (node : ℕ) (work : NodeWork) (shut : PlainClosedAgent) → node < W.settings.nodes → IsClosedAgentAt W node sents work shut → IsFew W work

-- Of each client all that it sent is taken, or as many items as a pass takes.
pub record TakesItems (sents : AllSent) (client : ℕ) (old new : NodeWork) : Type 0 where
  pub chunks : min (length (sents.chunks client)) (length (came_of client old) + MAX_TAKEN) ≤ length (came_of client new)
  pub crumbs : min (length (sents.crumbs client)) (length (crumbs_in client old.events) + MAX_TAKEN) ≤ length (crumbs_in client new.events)
  pub triggers : min (length (sents.triggers client)) (length (triggers_in client old.events) + MAX_TAKEN) ≤ length (triggers_in client new.events)

-- what a pass did, whatever asks came behind it
pub record PassedAlone (W : PlainWorkload) (node : ℕ) (sents : AllSents) (old new : NodeWork) (giver giver' : Giving) : Type 0 where
  pub pass : List AgentEvent
  pub events : new.events ≡ old.events ++ pass
  pub came : List (Buffer Leased)
  pub came_is : new.came ≡ old.came ++ came
  pub ends : EndsPass W (state_at W (with_events pass [] old)) pass
  pub gives : GiverGoesOn giver giver' (log_stamps (steps_of pass))
  pub takes : (client : ℕ) → client < W.settings.clients → TakesItems (sents node) client old new
  pub asks : min (length old.asked) (length (asks_in old.events) + MAX_TAKEN) ≤ length (asks_in new.events)
  pub few : length (asks_in new.events) ≤ length old.asked
  pub grows : length old.moved ≤ length new.moved

-- ---- a pass of one node

pub record ClosingCanPass (W : PlainWorkload) (node : ℕ) (sents : AllSents) (heard : Messages) (works : ℕ → NodeWork) (shut : PlainClosedAgent) (coordinator : PlainCoordinatorActor) : Type 0 where
  pub low : node < W.settings.nodes
  pub few : ClosingAreFew W sents
  pub stands : IsClosedAgentAt W node sents (works node) shut
  pub coordinates : IsCoordinatorActor W heard (moved_by works) (asked_by works) coordinator

pub record ClosingMayPass (node : ℕ) (shut : PlainClosedAgent) (coordinator : PlainCoordinatorActor) : Type 0 where
  pub workload : PlainWorkload
  pub sents : AllSents
  pub heard : Messages
  pub works : ℕ → NodeWork
  pub can : ClosingCanPass workload node sents heard works shut coordinator

pub record ClosingHasPassed (W : PlainWorkload) (node : ℕ) (sents : AllSents) (heard : Messages) (works : ℕ → NodeWork) (old : PlainClosedAgent) (before : PlainCoordinatorActor) (new : PlainClosedAgent) (after : PlainCoordinatorActor) : Type 0 where
  pub next : NodeWork
  pub stands : IsClosedAgentAt W node sents next new
  pub alone : PassedAlone W node sents (works node) next old.giver new.giver
  pub said : new.said ≡ []
  pub brought : (works' : ℕ → NodeWork) → works' node ≡ next → ((other : ℕ) → (other ≡ node → ⊥) → works' other ≡ works other) → IsCoordinatorActor W heard (moved_by works') (asked_by works') after
  pub asks : after.asks ≡ before.asks

-- ---- all nodes

pub record ClosedAgentsStand (W : PlainWorkload) (sents : AllSents) (works : ℕ → NodeWork) (nodes : List PlainClosedAgent) : Type 0 where
  pub each : (number : ℕ) (shut : PlainClosedAgent) → slice_get nodes number ≡ Some shut → IsClosedAgentAt W number sents (works number) shut

-- All nodes stand, and so does the coordinator.
pub record ClosingStands (W : PlainWorkload) (sents : AllSents) (heard : Messages) (works : ℕ → NodeWork) (nodes : List PlainClosedAgent) (coordinator : PlainCoordinatorActor) : Type 0 where
  pub valid : IsValid W
  pub few : ClosingAreFew W sents
  pub count : length nodes ≡ W.settings.nodes
  pub stands : ClosedAgentsStand W sents works nodes
  pub coordinates : IsCoordinatorActor W heard (moved_by works) (asked_by works) coordinator

pub record MayPassAll (nodes : List PlainClosedAgent) (coordinator : PlainCoordinatorActor) : Type 0 where
  pub workload : PlainWorkload
  pub sents : AllSents
  pub heard : Messages
  pub works : ℕ → NodeWork
  pub stand : ClosingStands workload sents heard works nodes coordinator

-- The first so many nodes made a pass, and their messages were moved; the others are as they were.
pub record Passing (W : PlainWorkload) (sents : AllSents) (heard : Messages) (begun : ℕ → NodeWork) (count : ℕ) (old nodes : List PlainClosedAgent) (coordinator : PlainCoordinatorActor) : Type 0 where
  pub works : ℕ → NodeWork
  pub many : length nodes ≡ length old
  pub stands : ClosedAgentsStand W sents works nodes
  pub passed : (number : ℕ) (x y : PlainClosedAgent) → number < count → slice_get old number ≡ Some x → slice_get nodes number ≡ Some y → PassedAlone W number sents (begun number) (works number) x.giver y.giver × (y.said ≡ [])
  pub others : (number : ℕ) → count ≤ number → (slice_get nodes number ≡ slice_get old number) × (works number ≡ begun number)
  pub coordinates : IsCoordinatorActor W heard (moved_by works) (asked_by works) coordinator

-- ---- asks

-- Nothing changed but the asks that wait for the agent.
pub record IsAskedOnly (old new : PlainClosedAgent) : Type 0 where
  pub giver : new.giver ≡ old.giver
  pub said : new.said ≡ old.said

-- The asks for the node went to its agent.
pub record IsAsked (asks : List Asks) (node : ℕ) (old new : PlainClosedAgent) : Type 0 where
  pub only : IsAskedOnly old new
  pub shut : (W : PlainWorkload) (work : NodeWork) (all : AllSent) → IsClosedAgent W work all old → AllAskable W asks → IsClosedAgent W (with_asks (asks_for node asks) work) all new

-- Asks were moved to nodes that had done these works. Nothing else changed.
pub record Asked (W : PlainWorkload) (sents : AllSents) (heard : Messages) (begun : ℕ → NodeWork) (old nodes : List PlainClosedAgent) (coordinator : PlainCoordinatorActor) : Type 0 where
  pub works : ℕ → NodeWork
  pub few : length nodes ≤ MAX_NODES
  pub same : (number : ℕ) → IsSameDoing (begun number) (works number) × ((works number).moved ≡ (begun number).moved)
  pub stands : ClosedAgentsStand W sents works nodes
  pub only : EachChanged (λ (number : ℕ). IsAskedOnly) old nodes
  pub coordinates : IsCoordinatorActor W heard (moved_by works) (asked_by works) coordinator

pub record IsAsking (nodes : List PlainClosedAgent) (coordinator : PlainCoordinatorActor) : Type 0 where
  pub workload : PlainWorkload
  pub sents : AllSents
  pub heard : Messages
  pub works : ℕ → NodeWork
  pub asking : Asked workload sents heard works nodes nodes coordinator

-- ---- the whole

-- the giver is that of the same pool
pub record IsSamePool (old new : Giving) : Type 0 where
  pub pool : new.pool ≡ old.pool
  pub buffers : new.buffers ≡ old.buffers
  pub drawers : new.drawers ≡ old.drawers

-- what each client of the rounds sent
pub record AreSentsOf (m : RunState) (sents : AllSents) : Type 0 where
  pub chunks : (node client : ℕ) (site : PlainNodeActors) (caller : PlainClientActor) → slice_get m.standing.nodes node ≡ Some site → slice_get site.callers client ≡ Some caller → (sents node).chunks client ≡ sent caller.client.chunks
  pub crumbs : (node client : ℕ) (site : PlainNodeActors) (caller : PlainClientActor) → slice_get m.standing.nodes node ≡ Some site → slice_get site.callers client ≡ Some caller → (sents node).crumbs client ≡ sent caller.client.crumbs
  pub triggers : (node client : ℕ) (site : PlainNodeActors) (caller : PlainClientActor) → slice_get m.standing.nodes node ≡ Some site → slice_get site.callers client ≡ Some caller → (sents node).triggers client ≡ sent caller.client.triggers

-- Passes were made behind the rounds that led to a moment, and nodes and coordinator stand where these led.
pub record ClosingAt (W : PlainWorkload) (rounds : ℕ) (m : RunState) (sents : AllSents) (nodes : List PlainClosedAgent) (coordinator : PlainCoordinatorActor) : Type 0 where
  pub clients : (node : ℕ) (site : PlainNodeActors) → slice_get m.standing.nodes node ≡ Some site → (node < W.settings.nodes) × (length site.callers ≡ W.settings.clients)
  pub sents_are : AreSentsOf m sents
  pub passes : ℕ
  pub posts : ℕ → NodeBetweenPasses
  pub heard : Messages
  pub closing : Closing W rounds m passes posts heard
  pub stand : ClosingStands W sents heard (λ node. (posts node).work) nodes coordinator
  pub givers : (node : ℕ) (shut : PlainClosedAgent) → slice_get nodes node ≡ Some shut → (posts node).giver ≡ shut.giver
  pub said : (node : ℕ) (shut : PlainClosedAgent) → slice_get nodes node ≡ Some shut → shut.said ≡ []
  pub kept : (node : ℕ) (site : PlainNodeActors) (shut : PlainClosedAgent) → slice_get m.standing.nodes node ≡ Some site → slice_get nodes node ≡ Some shut → IsSamePool site.agent.port.giver shut.giver

pub record MayClose (nodes : List PlainClosedAgent) (coordinator : PlainCoordinatorActor) : Type 0 where
  pub workload : PlainWorkload
  pub rounds : ℕ
  pub moment : RunState
  pub sents : AllSents
  pub at : ClosingAt workload rounds moment sents nodes coordinator

-- Nothing waits anywhere, and nothing is pinned.
pub record AllBare (W : PlainWorkload) (works : ℕ → NodeWork) (nodes : List PlainClosedAgent) (coordinator : PlainCoordinatorActor) : Type 0 where
  pub each : (number : ℕ) (shut : PlainClosedAgent) → slice_get nodes number ≡ Some shut → IsClosedAgentBare W (works number) shut
  pub told : all_empty coordinator.told ≡ true

-- Something waits at a node or is pinned there, or a message is not heard.
abbrev pub IsSomethingLeft : PlainWorkload → (ℕ → NodeWork) → List PlainClosedAgent → PlainCoordinatorActor → Type 0
IsSomethingLeft W works nodes coordinator =
    ((number : ℕ) × (shut : PlainClosedAgent) × (slice_get nodes number ≡ Some shut) × (IsClosedAgentBare W (works number) shut → ⊥)) ⊎ (all_empty coordinator.told ≡ false)

-- Nothing is left where the passes led.
pub record ClosedAt (W : PlainWorkload) (rounds : ℕ) (m : RunState) (sents : AllSents) (nodes : List PlainClosedAgent) (coordinator : PlainCoordinatorActor) : Type 0 where
  pub at : ClosingAt W rounds m sents nodes coordinator
  pub bare : AllBare W (λ node. (at.posts node).work) nodes coordinator

-- ---- from the rounds

-- all that the clients of each node sent
abbrev pub sents_at : RunState → AllSents
sents_at m node = option_map_or (λ (site : PlainNodeActors). sents_of site.callers) (slice_get m.standing.nodes node) (sents_of [])

-- The agent of the node is the same one with closed links.
pub record IsClosedAgentFrom (site : PlainNodeActors) (node : PlainClosedAgent) : Type 0 where
  pub shut : (W : PlainWorkload) (work : NodeWork) → IsAgentActor W work site.agent → IsClosedAgent W work (sents_of site.callers) node
  pub giver : node.giver ≡ site.agent.port.giver
  pub said : node.said ≡ site.agent.said

pub record AreClosedAgentsFrom (m : RunState) (nodes : List PlainClosedAgent) : Type 0 where
  pub count : length nodes ≡ length m.standing.nodes
  pub each : (node : ℕ) (site : PlainNodeActors) (shut : PlainClosedAgent) → slice_get m.standing.nodes node ≡ Some site → slice_get nodes node ≡ Some shut → IsClosedAgentFrom site shut
