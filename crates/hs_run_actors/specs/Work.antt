-- What was done at a node so far: the events of its agent, the buffers in which the agent's chunks came, all asks that were sent to
-- it, and the messages of it that were fetched. Each part only grows.
use Rattle.std.specs.Prelude.{ℕ, ◌==◌, ◌≤◌, Bool, true, false, List, [], ◌++◌, filter, count_by}
use Rattle.hs_base.specs.declared.limits.TheConstants.{MAX_CLIENTS, MAX_OPERATIONS}
use Rattle.hs_base.specs.declared.told.Ask.{Ask}
use Rattle.hs_base.specs.declared.told.Crumb.{Crumb}
use Rattle.hs_base.specs.declared.told.Told.{Told}
use Rattle.hs_base.specs.declared.told.Trigger.{Trigger}
use Rattle.hs_agent.specs.Points.{sheet_in}
use Rattle.hs_law_agent.specs.Stepping.{Chunk, Crumbed, Triggered, Asked, Answered, AgentEvent, Took, Gave}
use Rattle.hs_records.specs.Plain.{PlainWorkload}
use Rattle.hs_ring.specs.Parts.{Leased}
use Rattle.hs_words.specs.Buffers.{Buffer}
use Rattle.hs_words.specs.Pools.{PoolName}

pub record NodeWork : Type 0 where
  pub node : ℕ
  -- the pool of the node
  pub pool : PoolName
  pub events : List AgentEvent
  -- the buffers as the chunks came in them, one for each chunk in the order of the events
  pub came : List (Buffer Leased)
  pub asked : List Ask
  pub moved : List Told

abbrev pub with_events : List AgentEvent → List (Buffer Leased) → NodeWork → NodeWork
with_events events came work = record work { events = work.events ++ events; came = work.came ++ came }

abbrev pub with_asks : List Ask → NodeWork → NodeWork
with_asks asks work = record work { asked = work.asked ++ asks }

abbrev pub with_moved : List Told → NodeWork → NodeWork
with_moved told work = record work { moved = work.moved ++ told }

-- nothing was done
abbrev pub no_work : ℕ → PoolName → NodeWork
no_work node pool = record { node = node; pool = pool; events = []; came = []; asked = []; moved = [] }

-- ---- the events of items

abbrev pub chunk_event : ℕ → Buffer Leased → AgentEvent
chunk_event client buffer = Took (Chunk client (sheet_in buffer))

abbrev pub crumb_event : ℕ → Crumb → AgentEvent
crumb_event client crumb = Took (Crumbed client crumb)

abbrev pub trigger_event : ℕ → Trigger → AgentEvent
trigger_event client trigger = Took (Triggered client trigger)

abbrev pub ask_event : Ask → AgentEvent
ask_event ask = Took (Asked ask)

abbrev pub gave_event : Answered → AgentEvent
gave_event answer = Gave answer

-- ---- of one client

-- whether the chunk has a page of the client with this number
abbrev pub is_of : ℕ → Buffer Leased → Bool
is_of client buffer = (sheet_in buffer).header.client.number == client

-- the buffers in which the chunks of one client came
abbrev pub came_of : ℕ → NodeWork → List (Buffer Leased)
came_of client work = filter (is_of client) work.came

-- ---- limits

abbrev pub is_triggered : AgentEvent → Bool
is_triggered (Took (Triggered client trigger)) = true
is_triggered _ = false

-- how many triggers the agent took
abbrev pub triggered : List AgentEvent → ℕ
triggered events = count_by is_triggered events

-- No more clients are there than a node may have, and no more triggers were taken than a workload has.
pub record IsFew (W : PlainWorkload) (work : NodeWork) : Type 0 where
  pub clients : W.settings.clients ≤ MAX_CLIENTS
  pub triggers : triggered work.events ≤ MAX_OPERATIONS
