-- What was told and asked is moved between the agents and the coordinator, node by node.
use Rattle.std.specs.Prelude.{◌≡◌, ℕ, ◌<◌, ◌≤◌, List, slice_get, Some}
use Rattle.hs_base.specs.declared.told.Told.{Told}
use Rattle.hs_coord.specs.declared.asks.Asks.{Asks}
use Rattle.hs_records.specs.Plain.{PlainWorkload}
use Rattle.hs_run_actors.specs.Coordinators.{PlainCoordinatorActor, IsCoordinatorActor, AllAskable, Brings, asks_for}
use Rattle.hs_run_actors.specs.Work.{NodeWork, with_asks, with_moved}
use Rattle.hs_run.specs.RunStates.{PlainNodeActors, RunState, NodeActorsStand, moved_by, asked_by}
use Rattle.hs_run.specs.Meeting.{NodeActorsMeet}
use Rattle.hs_run.specs.Moving.{NodeActorsMove}
use Rattle.hs_run.specs.Changing.{FirstChanged}
use Rattle.hs_run.specs.Sites.{StandsSomewhere}
use Rattle.hs_run.specs.declared.node.ActingNode.{ActingNode}

abbrev pub Items : Type 0
Items = List ActingNode

-- ---- meeting

pub record AllStand (nodes : List ActingNode) : Type 0 where
  pub each : (number : ℕ) (node : ActingNode) → slice_get nodes number ≡ Some node → StandsSomewhere node.site

-- The node's clients met its agent, wherever it stood.
abbrev pub HasMet : ℕ → ActingNode → ActingNode → Type 0
HasMet place old new = (W : PlainWorkload) (node : ℕ) (work : NodeWork) → NodeActorsStand W node work old.site → NodeActorsMeet W node work old.site new.site

-- ---- messages and asks

-- the work of a node when asks for it and its messages were moved
abbrev pub exchanged : List Asks → ℕ → List Told → NodeWork → NodeWork
exchanged asks node told work = with_moved told (with_asks (asks_for node asks) work)

-- The asks for the node went to its agent, and its messages to the coordinator. Nothing else changed.
pub record HasExchanged (node : ℕ) (old : PlainNodeActors) (before : PlainCoordinatorActor) (new : PlainNodeActors) (after : PlainCoordinatorActor) : Type 0 where
  pub moves : NodeActorsMove old new
  pub only : after ≡ record before { told = after.told }
  pub by : (W : PlainWorkload) (work : NodeWork) → NodeActorsStand W node work old → AllAskable W before.asks
      → NodeActorsStand W node (exchanged before.asks node old.agent.said work) new × Brings W node old.agent.said before after

abbrev pub NodeMoves : ℕ → ActingNode → ActingNode → Type 0
NodeMoves place old new = NodeActorsMove old.site new.site

-- The work of a node came of this one by what was moved.
abbrev pub IsExchanged : List Asks → ℕ → NodeWork → NodeWork → Type 0
IsExchanged asks node work work' = (told : List Told) × (work' ≡ exchanged asks node told work)

-- Of a moment at which these nodes stood, the messages of the first so many nodes and the asks for them were moved.
pub record Moving (W : PlainWorkload) (m : RunState) (first : ℕ) (before nodes : List ActingNode) (coordinator : PlainCoordinatorActor) : Type 0 where
  pub works : ℕ → NodeWork
  pub done : (node : ℕ) → node < first → IsExchanged m.standing.coordinator.asks node (m.works node) (works node)
  pub others : (node : ℕ) → first ≤ node → works node ≡ m.works node
  pub moved : FirstChanged NodeMoves first before nodes
  pub stands : (number : ℕ) (node : ActingNode) → slice_get nodes number ≡ Some node → NodeActorsStand W number (works number) node.site
  pub coordinates : IsCoordinatorActor W m.heard (moved_by works) (asked_by m.works) coordinator
  pub kept : coordinator.kept ≡ m.standing.coordinator.kept
  pub asks : coordinator.asks ≡ m.standing.coordinator.asks
