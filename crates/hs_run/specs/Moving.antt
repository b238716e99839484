-- What is moved behind a round: each agent's messages go to the coordinator, and its asks to the agents, so nothing is left to be moved.
use Rattle.std.specs.Prelude.{◌≡◌, ℕ, [], slice_get, Some}
use Rattle.hs_records.specs.Plain.{PlainWorkload}
use Rattle.hs_run_actors.specs.Work.{NodeWork}
use Rattle.hs_run.specs.RunStates.{PlainNodeActors, RunState, RunStands}

-- No more was done at the node.
pub record IsSameDoing (work work' : NodeWork) : Type 0 where
  pub node : work'.node ≡ work.node
  pub pool : work'.pool ≡ work.pool
  pub events : work'.events ≡ work.events
  pub came : work'.came ≡ work.came

-- The clients and the port are the same, and no message waits to be moved.
pub record NodeActorsMove (old new : PlainNodeActors) : Type 0 where
  pub callers : new.callers ≡ old.callers
  pub port : new.agent.port ≡ old.agent.port
  pub agent : new.agent.agent ≡ old.agent.agent
  pub said : new.agent.said ≡ []

pub record Moves (W : PlainWorkload) (m m' : RunState) : Type 0 where
  pub stands : RunStands W m'
  pub heard : m'.heard ≡ m.heard
  pub works : (node : ℕ) → IsSameDoing (m.works node) (m'.works node)
  pub each : (node : ℕ) (site site' : PlainNodeActors) → slice_get m.standing.nodes node ≡ Some site → slice_get m'.standing.nodes node ≡ Some site' → NodeActorsMove site site'
  pub kept : m'.standing.coordinator.kept ≡ m.standing.coordinator.kept
  pub asks : m'.standing.coordinator.asks ≡ []
