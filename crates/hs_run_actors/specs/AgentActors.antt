-- An agent in the rounds, as contracts see it, and what it is between them: its agent, its port, the asks that wait for it and the
-- messages that wait to be fetched.
use Rattle.std.specs.Prelude.{◌≡◌, ℕ, ◌+◌, ◌≤◌, min, List, [], ◌++◌, length}
use Rattle.hs_base.specs.declared.limits.TheConstants.{MAX_TAKEN}
use Rattle.hs_base.specs.declared.told.Ask.{Ask}
use Rattle.hs_base.specs.declared.told.Crumb.{Crumb}
use Rattle.hs_base.specs.declared.told.Told.{Told}
use Rattle.hs_base.specs.declared.told.Trigger.{Trigger}
use Rattle.hs_law_journal.specs.Doings.{asks_in, crumbs_in, triggers_in, steps_of}
use Rattle.hs_law_journal.specs.LoopPasses.{EndsPass}
use Rattle.hs_agent.specs.Keeping.{PlainAgent}
use Rattle.hs_law_journal.specs.Shape.{log_stamps}
use Rattle.hs_link.specs.Contents.{Incoming, IsSameReceiver}
use Rattle.hs_live.specs.Live.{Port, IsEnd}
use Rattle.hs_live.specs.Keys.{Key}
use Rattle.hs_law_agent.specs.Stepping.{AgentEvent}
use Rattle.hs_records.specs.Plain.{PlainWorkload}
use Rattle.hs_ring.specs.Parts.{Leased}
use Rattle.hs_words.specs.Buffers.{Buffer}
use Rattle.hs_run_actors.specs.Agents.{state_at}
use Rattle.hs_run_actors.specs.Intakes.{AreIntakes, intakes_of}
use Rattle.hs_run_actors.specs.Stages.{PlainWorkingAgent, WorkingAgentStands}
use Rattle.hs_run_actors.specs.Turns.{GiverGoesOn}
use Rattle.hs_run_actors.specs.Work.{NodeWork, came_of, with_events}

pub record PlainAgentActor : Type 0 where
  pub agent : PlainAgent Leased
  pub port : Port
  pub asks : List Ask
  pub said : List Told
  -- how many clients the node has
  pub clients : ℕ

abbrev pub working_agent_of : PlainAgentActor → PlainWorkingAgent
working_agent_of manned = record { agent = manned.agent; asks = manned.asks; said = manned.said }

-- Of each client the port received what the work says, and no more.
pub record HasReceived (work : NodeWork) (port : Port) : Type 0 where
  pub chunks : (client : ℕ) (r : Incoming (Buffer Leased) Key) → IsEnd client port.chunks r → r.received ≡ came_of client work
  pub crumbs : (client : ℕ) (r : Incoming Crumb Key) → IsEnd client port.crumbs r → r.received ≡ crumbs_in client work.events
  pub triggers : (client : ℕ) (r : Incoming Trigger Key) → IsEnd client port.triggers r → r.received ≡ triggers_in client work.events

-- What stands between rounds, where this was done so far.
pub record IsAgentActor (W : PlainWorkload) (work : NodeWork) (manned : PlainAgentActor) : Type 0 where
  pub stands : WorkingAgentStands W work (working_agent_of manned) (intakes_of manned.port)
  pub received : HasReceived work manned.port
  pub clients_are : manned.clients ≡ W.settings.clients

-- Nothing was done with the port: its ends are those of the node's clients, nothing was received, and the giver took no turn.
pub record BeginsAt (W : PlainWorkload) (node : ℕ) (port : Port) : Type 0 where
  pub lines : AreIntakes W node port.giver.pool (intakes_of port)
  pub turns : port.giver.turns ≡ []
  pub chunks : (client : ℕ) (r : Incoming (Buffer Leased) Key) → IsEnd client port.chunks r → r.received ≡ []
  pub crumbs : (client : ℕ) (r : Incoming Crumb Key) → IsEnd client port.crumbs r → r.received ≡ []
  pub triggers : (client : ℕ) (r : Incoming Trigger Key) → IsEnd client port.triggers r → r.received ≡ []

-- ---- a pass

-- Of what the receiver was told of it received all, or as many items as a pass takes.
pub record ReceivesInPass {T : Type 0} (old new : Incoming T Key) : Type 0 where
  pub same : IsSameReceiver old new
  pub items : List T
  pub more : new.received ≡ old.received ++ items
  pub few : length items ≤ MAX_TAKEN
  pub all : min (length old.told) (length old.received + MAX_TAKEN) ≤ length new.received

-- each receiver of the list did so
pub record EachReceives {T : Type 0} (old new : List (Incoming T Key)) : Type 0 where
  pub count : length new ≡ length old
  pub each : (client : ℕ) (r : Incoming T Key) → IsEnd client old r → (q : Incoming T Key) × IsEnd client new q × ReceivesInPass r q

-- Of the asks that were sent all are taken behind the pass, or as many more as a pass takes.
abbrev pub TakesItsAsks : NodeWork → List AgentEvent → Type 0
TakesItsAsks work pass = min (length work.asked) (length (asks_in work.events) + MAX_TAKEN) ≤ length (asks_in (work.events ++ pass))

pub record Passes (W : PlainWorkload) (work : NodeWork) (pass : List AgentEvent) (came : List (Buffer Leased)) (old new : PlainAgentActor) : Type 0 where
  pub stands : IsAgentActor W (with_events pass came work) new
  pub ends : EndsPass W (state_at W (with_events pass [] work)) pass
  pub gives : GiverGoesOn old.port.giver new.port.giver (log_stamps (steps_of pass))
  pub chunks : EachReceives old.port.chunks new.port.chunks
  pub crumbs : EachReceives old.port.crumbs new.port.crumbs
  pub triggers : EachReceives old.port.triggers new.port.triggers
  pub asks : TakesItsAsks work pass
