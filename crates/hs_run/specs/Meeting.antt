-- What a meeting behind a round does. Each client meets its node's port: on each link both ends hear what the other did, and the
-- drawer and the giver rise above all that either was answered.
use Rattle.std.specs.Prelude.{◌≡◌, ℕ, ◌≤◌, List, ◌++◌, map, reverse, slice_get, Some}
use Rattle.hs_link.specs.Contents.{Incoming, Outgoing, Contains}
use Rattle.hs_live.specs.Keys.{Key}
use Rattle.hs_live.specs.Live.{Port, hears, is_told, IsEnd}
use Rattle.hs_records.specs.Plain.{PlainWorkload}
use Rattle.hs_ring.specs.Parts.{Giving, AllBelow, with_floor}
use Rattle.hs_words.specs.Ends.{GiverTurn, met, answers_in, stamps_in}
use Rattle.hs_run_actors.specs.ClientActors.{PlainClientActor}
use Rattle.hs_run_actors.specs.Work.{NodeWork}
use Rattle.hs_run.specs.RunStates.{PlainNodeActors, RunState, NodeActorsStand, RunStands}

-- ---- one client

-- The two ends of a link heard of each other.
pub record LinkMet {T : Type 0} (s : Outgoing T Key) (r : Incoming T Key) (s' : Outgoing T Key) (r' : Incoming T Key) : Type 0 where
  pub sender : s' ≡ hears s r
  pub receiver : r' ≡ is_told r s
  pub contents : Contains s r
  pub keys : r.key ≡ s.key

abbrev pub EndsMet : {T : Type 0} → ℕ → List (Incoming T Key) → Outgoing T Key → List (Incoming T Key) → Outgoing T Key → Type 0
EndsMet number ends s ends' s' = (r r' : Incoming _ Key) → IsEnd number ends r → IsEnd number ends' r' → LinkMet s r s' r'

pub record ClientActorMet (number : ℕ) (port port' : Port) (old new : PlainClientActor) : Type 0 where
  pub done : new.done ≡ old.done
  pub chunks : EndsMet number port.chunks old.client.chunks port'.chunks new.client.chunks
  pub crumbs : EndsMet number port.crumbs old.client.crumbs port'.crumbs new.client.crumbs
  pub triggers : EndsMet number port.triggers old.client.triggers port'.triggers new.client.triggers
  pub core : new.client.core ≡ old.client.core
  pub autos : new.client.autos ≡ old.client.autos
  pub floor : ℕ
  pub drawer : new.client.drawer ≡ with_floor old.client.drawer floor
  pub rises : old.client.drawer.floor ≤ floor
  pub above_given : AllBelow floor (answers_in port.giver.turns)
  pub above_drawn : AllBelow floor old.client.drawer.answers

-- ---- one node

-- what the giver is told of a client's draws
abbrev pub told_of : PlainClientActor → GiverTurn
told_of caller = met (stamps_in caller.client.drawer.answers)

-- The giver met these clients, the last one last.
pub record GiverMet (callers : List PlainClientActor) (old new : Giving) : Type 0 where
  pub pool : new.pool ≡ old.pool
  pub buffers : new.buffers ≡ old.buffers
  pub size : new.size ≡ old.size
  pub drawers : new.drawers ≡ old.drawers
  pub turns : new.turns ≡ reverse (map told_of callers) ++ old.turns
  pub rises : old.floor ≤ new.floor
  pub above_drawn : (number : ℕ) (caller : PlainClientActor) → slice_get callers number ≡ Some caller → AllBelow new.floor caller.client.drawer.answers

-- The agent's port met each client of its node.
pub record NodeActorsMeet (W : PlainWorkload) (node : ℕ) (work : NodeWork) (old new : PlainNodeActors) : Type 0 where
  pub stands : NodeActorsStand W node work new
  pub callers : (number : ℕ) (caller caller' : PlainClientActor) → slice_get old.callers number ≡ Some caller → slice_get new.callers number ≡ Some caller'
      → ClientActorMet number old.agent.port new.agent.port caller caller'
  pub giver : GiverMet old.callers old.agent.port.giver new.agent.port.giver
  pub desk : new.agent ≡ record old.agent { port = new.agent.port }

-- All nodes' agents met their clients.
pub record AllMeet (W : PlainWorkload) (m m' : RunState) : Type 0 where
  pub stands : RunStands W m'
  pub each : (node : ℕ) (site site' : PlainNodeActors) → slice_get m.standing.nodes node ≡ Some site → slice_get m'.standing.nodes node ≡ Some site'
      → NodeActorsMeet W node (m.works node) site site'
  pub works : m'.works ≡ m.works
  pub heard : m'.heard ≡ m.heard
  pub coordinator : m'.standing.coordinator ≡ m.standing.coordinator
