-- One node: what its agent and its clients may do at once, what a round does to it, and how far the meetings of its clients have come.
use Rattle.std.specs.Prelude.{◌≡◌, ℕ, ◌<◌, ◌≤◌, Bool, true, false, List, length, slice_get, slice_set, take, Some}
use Rattle.hs_base.specs.Listing.{Listing}
use Rattle.hs_base.specs.declared.settings.Settings.{Settings}
use Rattle.hs_base.specs.Ids.{client_of}
use Rattle.hs_law_agent.specs.Stepping.{AgentEvent}
use Rattle.hs_records.specs.Plain.{PlainWorkload, settings_of}
use Rattle.hs_ring.specs.Parts.{Leased}
use Rattle.hs_client.specs.Sending.{operations_at, place_of}
use Rattle.hs_words.specs.Buffers.{Buffer}
use Rattle.hs_records.specs.declared.operation.Op.{Op}
use Rattle.hs_records.specs.Validity.{IsValid}
use Rattle.hs_records.specs.Views.{operations_of}
use Rattle.hs_run_actors.specs.ClientActors.{PlainClientActor}
use Rattle.hs_run_actors.specs.AgentActors.{PlainAgentActor, IsAgentActor, Passes}
use Rattle.hs_run_actors.specs.Work.{NodeWork, IsFew}
use Rattle.hs_run.specs.RunStates.{PlainNodeActors, NodeActorsStand}
use Rattle.hs_live.specs.Calls.{MeetsAt}
use Rattle.hs_run_actors.specs.Standing.{ClientActorIsAt}
use Rattle.hs_run.specs.Acting.{NodeActorsAct}
use Rattle.hs_run.specs.Meeting.{ClientActorMet, GiverMet}

-- The settings are those of the workload, and these are the operations of the clients of a node.
pub record AreClients (W : PlainWorkload) (node : ℕ) (settings : Settings) (lists : List (Listing Op)) : Type 0 where
  pub settings_are : settings_of settings ≡ W.settings
  pub count : length lists ≡ W.settings.clients
  pub each : (number : ℕ) (ops : Listing Op) → slice_get lists number ≡ Some ops → operations_of ops ≡ operations_at W (place_of W.settings.clients node number)

-- ---- acting

-- The agent may make a pass.
pub record MayPass (agent : PlainAgentActor) : Type 0 where
  pub workload : PlainWorkload
  pub work : NodeWork
  pub manned : IsAgentActor workload work agent
  pub few : IsFew workload work

-- The agent made a pass, whatever its work was.
pub record HasPassed (old new : PlainAgentActor) : Type 0 where
  pub by : (W : PlainWorkload) (work : NodeWork) → IsAgentActor W work old → IsFew W work → (pass : List AgentEvent) × (came : List (Buffer Leased)) × Passes W work pass came old new

-- A node that stands, with the operations of its clients, may act.
pub record MayAct (settings : Settings) (lists : List (Listing Op)) (site : PlainNodeActors) : Type 0 where
  pub workload : PlainWorkload
  pub node : ℕ
  pub work : NodeWork
  pub stands : NodeActorsStand workload node work site
  pub few : IsFew workload work
  pub clients : AreClients workload node settings lists

-- It acted.
pub record HasActed (settings : Settings) (lists : List (Listing Op)) (old new : PlainNodeActors) : Type 0 where
  pub count : length new.callers ≡ length old.callers
  pub by : (W : PlainWorkload) (node : ℕ) (work : NodeWork) → NodeActorsStand W node work old → IsFew W work → AreClients W node settings lists → (work' : NodeWork) × NodeActorsAct W node work work' old new

-- A client of the node has operations left, or none has.
abbrev pub TellsSiteLeft : List (Listing Op) → PlainNodeActors → Bool → Type 0
TellsSiteLeft lists site true = (number : ℕ) × (caller : PlainClientActor) × (ops : Listing Op) × (slice_get site.callers number ≡ Some caller) × (slice_get lists number ≡ Some ops) × (caller.done < length ops.items)
TellsSiteLeft lists site false = (number : ℕ) (caller : PlainClientActor) (ops : Listing Op) → slice_get site.callers number ≡ Some caller → slice_get lists number ≡ Some ops → length ops.items ≤ caller.done

-- ---- meeting

-- The node stands somewhere, in a run of a valid workload.
pub record StandsSomewhere (site : PlainNodeActors) : Type 0 where
  pub workload : PlainWorkload
  pub valid : IsValid workload
  pub node : ℕ
  pub work : NodeWork
  pub stands : NodeActorsStand workload node work site

-- One client of a node that stands met the port of its agent.
pub record MeetsOne (W : PlainWorkload) (node : ℕ) (work : NodeWork) (number : ℕ) (old new : PlainNodeActors) : Type 0 where
  pub before : PlainClientActor
  pub after : PlainClientActor
  pub stood : slice_get old.callers number ≡ Some before
  pub callers : new.callers ≡ slice_set old.callers number after
  pub met : MeetsAt number old.agent.port before.client new.agent.port after.client
  pub done : after.done ≡ before.done
  pub at : ClientActorIsAt W.settings (client_of node number) (operations_at W (place_of W.settings.clients node number)) after
  pub manned : IsAgentActor W work new.agent
  pub desk : new.agent ≡ record old.agent { port = new.agent.port }

-- The first so many clients of the node met the port of its agent, and the others are as they were.
pub record HaveMet (W : PlainWorkload) (node : ℕ) (work : NodeWork) (count : ℕ) (old new : PlainNodeActors) : Type 0 where
  pub stands : NodeActorsStand W node work new
  pub met : (number : ℕ) (caller caller' : PlainClientActor) → number < count → slice_get old.callers number ≡ Some caller → slice_get new.callers number ≡ Some caller'
      → ClientActorMet number old.agent.port new.agent.port caller caller'
  pub still : (number : ℕ) → count ≤ number → slice_get new.callers number ≡ slice_get old.callers number
  pub chunks : (number : ℕ) → count ≤ number → slice_get new.agent.port.chunks number ≡ slice_get old.agent.port.chunks number
  pub crumbs : (number : ℕ) → count ≤ number → slice_get new.agent.port.crumbs number ≡ slice_get old.agent.port.crumbs number
  pub triggers : (number : ℕ) → count ≤ number → slice_get new.agent.port.triggers number ≡ slice_get old.agent.port.triggers number
  pub giver : GiverMet (take count old.callers) old.agent.port.giver new.agent.port.giver
  pub desk : new.agent ≡ record old.agent { port = new.agent.port }
