-- What is asked of the nodes of a run, which act at once, and what each comes to.
use Rattle.std.specs.Prelude.{◌≡◌, ℕ, ◌<◌, ◌≤◌, Bool, true, false, List, length, map, slice_get, Some}
use Rattle.hs_coord.specs.Messages.{Messages}
use Rattle.hs_records.specs.Plain.{PlainWorkload}
use Rattle.hs_client.specs.Sending.{operations_at, place_of}
use Rattle.hs_records.specs.Validity.{IsValid}
use Rattle.hs_records.specs.Views.{workload_of}
use Rattle.hs_records.specs.declared.operation.Workload.{Workload}
use Rattle.hs_run_actors.specs.ClientActors.{PlainClientActor}
use Rattle.hs_run_actors.specs.Coordinators.{PlainCoordinatorActor, IsCoordinatorActor, Hears}
use Rattle.hs_run_actors.specs.Work.{NodeWork, IsFew}
use Rattle.hs_run.specs.RunStates.{PlainNodeActors, NodeActorsStand, moved_by, asked_by}
use Rattle.hs_run.specs.Acting.{NodeActorsAct}
use Rattle.hs_run.specs.declared.node.ActingNode.{ActingNode}

-- ---- acting

-- The node of this number may act.
pub record MayActAt (w : Workload) (number : ℕ) (node : ActingNode) : Type 0 where
  pub valid : IsValid (workload_of w)
  pub low : number < (workload_of w).settings.nodes
  pub work : NodeWork
  pub stands : NodeActorsStand (workload_of w) number work node.site
  pub few : IsFew (workload_of w) work

-- The node of this number acted, unless it failed.
abbrev pub HasActedAt : Workload → ℕ → ActingNode → ActingNode → Type 0
HasActedAt w number old new =
    new.failed ≡ false → (work : NodeWork) → NodeActorsStand (workload_of w) number work old.site → IsFew (workload_of w) work
    → (work' : NodeWork) × NodeActorsAct (workload_of w) number work work' old.site new.site

pub record AllMayAct (w : Workload) (nodes : List ActingNode) : Type 0 where
  pub each : (number : ℕ) (node : ActingNode) → slice_get nodes number ≡ Some node → MayActAt w number node

-- Each of the nodes acted.
pub record AllHaveActed (w : Workload) (old new : List ActingNode) : Type 0 where
  pub count : length new ≡ length old
  pub each : (number : ℕ) (node node' : ActingNode) → slice_get old number ≡ Some node → slice_get new number ≡ Some node' → HasActedAt w number node node'

-- Memory failed no node.
abbrev pub NoneFailed : List ActingNode → Type 0
NoneFailed nodes = (number : ℕ) (node : ActingNode) → slice_get nodes number ≡ Some node → node.failed ≡ false

-- Memory failed some node.
abbrev pub SomeFailed : List ActingNode → Type 0
SomeFailed nodes = (number : ℕ) × (node : ActingNode) × (slice_get nodes number ≡ Some node) × (node.failed ≡ true)

-- ---- the coordinator

pub record MayHear (c : PlainCoordinatorActor) : Type 0 where
  pub workload : PlainWorkload
  pub heard : Messages
  pub works : ℕ → NodeWork
  pub is : IsCoordinatorActor workload heard (moved_by works) (asked_by works) c

pub record HasHeard (old new : PlainCoordinatorActor) : Type 0 where
  pub by : (W : PlainWorkload) (heard : Messages) (works : ℕ → NodeWork) → IsCoordinatorActor W heard (moved_by works) (asked_by works) old
      → (more : Messages) × Hears W heard more (moved_by works) (asked_by works) new

-- ---- what is left

-- The node of this number is one of a valid workload and has its clients.
pub record IsWhole (W : PlainWorkload) (number : ℕ) (site : PlainNodeActors) : Type 0 where
  pub valid : IsValid W
  pub low : number < W.settings.nodes
  pub clients : length site.callers ≡ W.settings.clients

pub record AreWhole (W : PlainWorkload) (nodes : List ActingNode) : Type 0 where
  pub each : (number : ℕ) (node : ActingNode) → slice_get nodes number ≡ Some node → IsWhole W number node.site

-- A client of the node of this number has operations left, or none has.
abbrev pub TellsNodeLeft : PlainWorkload → ℕ → PlainNodeActors → Bool → Type 0
TellsNodeLeft W node site true = (number : ℕ) × (caller : PlainClientActor) × (slice_get site.callers number ≡ Some caller) × (caller.done < length (operations_at W (place_of W.settings.clients node number)))
TellsNodeLeft W node site false = (number : ℕ) (caller : PlainClientActor) → slice_get site.callers number ≡ Some caller → length (operations_at W (place_of W.settings.clients node number)) ≤ caller.done

abbrev pub sites_of : List ActingNode → List PlainNodeActors
sites_of nodes = map (λ (node : ActingNode). node.site) nodes

-- A client of some node has operations left, or none has.
abbrev pub TellsLeft : PlainWorkload → List ActingNode → Bool → Type 0
TellsLeft W nodes true = (number : ℕ) × (node : ActingNode) × (slice_get nodes number ≡ Some node) × TellsNodeLeft W number node.site true
TellsLeft W nodes false = (number : ℕ) (node : ActingNode) → slice_get nodes number ≡ Some node → TellsNodeLeft W number node.site false
