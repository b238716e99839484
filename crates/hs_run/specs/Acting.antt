-- What a round does: each client goes on in its operations, each agent makes a pass, and the coordinator makes one, each by itself.
use Rattle.std.specs.Prelude.{◌≡◌, ℕ, List, ◌++◌, slice_get, Some}
use Rattle.hs_records.specs.Plain.{PlainWorkload}
use Rattle.hs_client.specs.Sending.{operations_at, place_of}
use Rattle.hs_run_actors.specs.ClientActors.{PlainClientActor}
use Rattle.hs_run_actors.specs.Standing.{Goes}
use Rattle.hs_run_actors.specs.Coordinators.{Hears}
use Rattle.hs_run_actors.specs.AgentActors.{Passes}
use Rattle.hs_run_actors.specs.Work.{NodeWork, with_events}
use Rattle.hs_coord.specs.Messages.{Messages}
use Rattle.hs_law_agent.specs.Stepping.{AgentEvent}
use Rattle.hs_ring.specs.Parts.{Leased}
use Rattle.hs_words.specs.Buffers.{Buffer}
use Rattle.hs_run.specs.RunStates.{PlainNodeActors, RunState, NodeActorsStand, RunStands, moved_by, asked_by}

-- Of a node each client went on, and the agent made a pass.
pub record NodeActorsAct (W : PlainWorkload) (node : ℕ) (work work' : NodeWork) (old new : PlainNodeActors) : Type 0 where
  pub stands : NodeActorsStand W node work' new
  pub goes : (number : ℕ) (caller caller' : PlainClientActor) → slice_get old.callers number ≡ Some caller → slice_get new.callers number ≡ Some caller'
      → Goes W.settings (operations_at W (place_of W.settings.clients node number)) caller caller'
  pub pass : List AgentEvent
  pub came : List (Buffer Leased)
  pub work_is : work' ≡ with_events pass came work
  pub passes : Passes W work pass came old.agent new.agent

pub record Acts (W : PlainWorkload) (m m' : RunState) : Type 0 where
  pub stands : RunStands W m'
  pub each : (node : ℕ) (site site' : PlainNodeActors) → slice_get m.standing.nodes node ≡ Some site → slice_get m'.standing.nodes node ≡ Some site'
      → NodeActorsAct W node (m.works node) (m'.works node) site site'
  pub more : Messages
  pub heard : m'.heard ≡ m.heard ++ more
  pub hears : Hears W m.heard more (moved_by m.works) (asked_by m.works) m'.standing.coordinator
