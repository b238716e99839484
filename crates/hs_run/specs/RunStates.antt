-- Where all of a run stands at a moment: of each node its clients and its agent, and the coordinator; and beside these what was done
-- so far, which nothing but these definitions keeps: each node's work, and the messages that the coordinator has heard.
use Rattle.std.specs.Prelude.{◌≡◌, ℕ, List, [], length, slice_get, Some}
use Rattle.hs_base.specs.declared.told.Ask.{Ask}
use Rattle.hs_base.specs.declared.told.Told.{Told}
use Rattle.hs_base.specs.Ids.{client_of}
use Rattle.hs_coord.specs.Messages.{Messages}
use Rattle.hs_live.specs.Calls.{AreMates}
use Rattle.hs_records.specs.Plain.{PlainWorkload}
use Rattle.hs_client.specs.Sending.{operations_at, place_of}
use Rattle.hs_records.specs.Validity.{IsValid}
use Rattle.hs_run_actors.specs.ClientActors.{PlainClientActor}
use Rattle.hs_run_actors.specs.Standing.{ClientActorIsAt}
use Rattle.hs_run_actors.specs.Coordinators.{PlainCoordinatorActor, IsCoordinatorActor}
use Rattle.hs_run_actors.specs.AgentActors.{PlainAgentActor, IsAgentActor}
use Rattle.hs_run_actors.specs.Work.{NodeWork, no_work}

pub record PlainNodeActors : Type 0 where
  pub callers : List PlainClientActor
  pub agent : PlainAgentActor

pub record RunActors : Type 0 where
  pub nodes : List PlainNodeActors
  pub coordinator : PlainCoordinatorActor

-- a moment, with what was done up to it; the works are those of the nodes by number
pub record RunState : Type 0 where
  pub standing : RunActors
  pub works : ℕ → NodeWork
  pub heard : Messages

-- the messages of each node that were fetched, and the asks that were sent to it
abbrev pub moved_by : (ℕ → NodeWork) → ℕ → List Told
moved_by works node = (works node).moved

abbrev pub asked_by : (ℕ → NodeWork) → ℕ → List Ask
asked_by works node = (works node).asked

-- A node has its clients, each somewhere in its operations and with the other ends at the agent's port, and its agent has done its work.
pub record NodeActorsStand (W : PlainWorkload) (node : ℕ) (work : NodeWork) (site : PlainNodeActors) : Type 0 where
  pub node_is : work.node ≡ node
  pub count : length site.callers ≡ W.settings.clients
  pub callers : (number : ℕ) (caller : PlainClientActor) → slice_get site.callers number ≡ Some caller
      → ClientActorIsAt W.settings (client_of node number) (operations_at W (place_of W.settings.clients node number)) caller
  pub mates : (number : ℕ) (caller : PlainClientActor) → slice_get site.callers number ≡ Some caller → AreMates number site.agent.port caller.client
  pub agent : IsAgentActor W work site.agent

-- All nodes and the coordinator stand where the works and the messages say.
pub record RunStands (W : PlainWorkload) (m : RunState) : Type 0 where
  pub valid : IsValid W
  pub count : length m.standing.nodes ≡ W.settings.nodes
  pub each : (node : ℕ) (site : PlainNodeActors) → slice_get m.standing.nodes node ≡ Some site → NodeActorsStand W node (m.works node) site
  pub coordinator : IsCoordinatorActor W m.heard (moved_by m.works) (asked_by m.works) m.standing.coordinator

-- Nothing was done yet.
pub record IsBegun (W : PlainWorkload) (m : RunState) : Type 0 where
  pub stands : RunStands W m
  pub works : (node : ℕ) → m.works node ≡ no_work node (m.works node).pool
  pub heard : m.heard ≡ []
  pub done : (node number : ℕ) (site : PlainNodeActors) (caller : PlainClientActor) → slice_get m.standing.nodes node ≡ Some site → slice_get site.callers number ≡ Some caller → caller.done ≡ 0
