-- Nodes and a coordinator that stand at a moment of a run, and how far the rounds have come.
use Rattle.std.specs.Prelude.{◌≡◌, ℕ, ◌*◌, ◌<◌, min, List, length, slice_get, Some}
use Rattle.hs_records.specs.Plain.{PlainWorkload}
use Rattle.hs_client.specs.Sending.{operations_at, place_of}
use Rattle.hs_run_actors.specs.ClientActors.{PlainClientActor}
use Rattle.hs_run_actors.specs.Coordinators.{PlainCoordinatorActor}
use Rattle.hs_run_actors.specs.Work.{IsFew}
use Rattle.hs_run.specs.RunStates.{PlainNodeActors, RunState, RunStands, IsBegun}
use Rattle.hs_run.specs.Acting.{Acts}
use Rattle.hs_run.specs.Meeting.{AllMeet}
use Rattle.hs_run.specs.Moving.{Moves}
use Rattle.hs_run.specs.Coming.{Came}
use Rattle.hs_run.specs.Laws.{AllBegin}
use Rattle.hs_run.specs.declared.node.ActingNode.{ActingNode}
use Rattle.hs_run.specs.Nodes.{sites_of}

-- All stand where the moment says.
pub record IsHere (W : PlainWorkload) (m : RunState) (nodes : List ActingNode) (coordinator : PlainCoordinatorActor) : Type 0 where
  pub stands : RunStands W m
  pub nodes_are : m.standing.nodes ≡ sites_of nodes
  pub coordinator_is : m.standing.coordinator ≡ coordinator

-- No agent took more triggers than a workload has.
abbrev pub AreFew : PlainWorkload → RunState → Type 0
AreFew W m = (node : ℕ) → node < W.settings.nodes → IsFew W (m.works node)

-- All acted, and stand at the moment behind it.
pub record ActedTo (W : PlainWorkload) (m : RunState) (nodes : List ActingNode) (coordinator : PlainCoordinatorActor) : Type 0 where
  pub next : RunState
  pub acts : Acts W m next
  pub here : IsHere W next nodes coordinator

-- All met.
pub record MetTo (W : PlainWorkload) (m : RunState) (nodes : List ActingNode) (coordinator : PlainCoordinatorActor) : Type 0 where
  pub next : RunState
  pub meets : AllMeet W m next
  pub here : IsHere W next nodes coordinator

-- What was told and asked was moved.
pub record MovedTo (W : PlainWorkload) (m : RunState) (nodes : List ActingNode) (coordinator : PlainCoordinatorActor) : Type 0 where
  pub next : RunState
  pub moves : Moves W m next
  pub here : IsHere W next nodes coordinator

-- A moment at which all may act.
pub record CanAct (W : PlainWorkload) (nodes : List ActingNode) (coordinator : PlainCoordinatorActor) : Type 0 where
  pub moment : RunState
  pub here : IsHere W moment nodes coordinator
  pub few : AreFew W moment

-- All operations are done.
abbrev pub AllDone : PlainWorkload → List PlainNodeActors → Type 0
AllDone W sites =
    (node number : ℕ) (site : PlainNodeActors) (caller : PlainClientActor) → slice_get sites node ≡ Some site → slice_get site.callers number ≡ Some caller
    → caller.done ≡ length (operations_at W (place_of W.settings.clients node number))

-- Each client has done so many rounds' operations, as far as it has them.
abbrev pub DoneIn : PlainWorkload → ℕ → List PlainNodeActors → Type 0
DoneIn W rounds sites =
    (node number : ℕ) (site : PlainNodeActors) (caller : PlainClientActor) → slice_get sites node ≡ Some site → slice_get site.callers number ≡ Some caller
    → caller.done ≡ min (rounds * W.settings.stride) (length (operations_at W (place_of W.settings.clients node number)))

-- So many rounds led here.
pub record RoundsMade (W : PlainWorkload) (rounds : ℕ) (nodes : List ActingNode) (coordinator : PlainCoordinatorActor) : Type 0 where
  pub moment : RunState
  pub came : Came W rounds moment
  pub ends : AllBegin W (came.at 0)
  pub here : IsHere W moment nodes coordinator
  pub few : AreFew W moment
  pub done : DoneIn W rounds moment.standing.nodes

-- All begins.
pub record CanBegin (W : PlainWorkload) (nodes : List ActingNode) (coordinator : PlainCoordinatorActor) : Type 0 where
  pub moment : RunState
  pub begun : IsBegun W moment
  pub ends : AllBegin W moment
  pub here : IsHere W moment nodes coordinator

-- Rounds led here, and in them all operations were done.
pub record RoundsOver (W : PlainWorkload) (nodes : List ActingNode) (coordinator : PlainCoordinatorActor) : Type 0 where
  pub rounds : ℕ
  pub made : RoundsMade W rounds nodes coordinator
  pub all : AllDone W made.moment.standing.nodes
