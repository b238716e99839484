-- What an agent is between two calls: it follows the events of the work, each of which is one of its node's, and what it told waits
-- to be fetched.
use Rattle.std.specs.Prelude.{◌≡◌, ℕ, ◌+◌, ◌^◌, ◌<◌, true, List, [], ◌∷◌, ◌++◌, map, Option, Some, None}
use Rattle.std.specs.List.{AllByRecursion, flat_map}
use Rattle.hs_base.specs.Rules.{is_declared}
use Rattle.hs_base.specs.declared.told.Ask.{Ask}
use Rattle.hs_base.specs.declared.told.Told.{Told}
use Rattle.hs_agent.specs.declared.input.Input.{Input}
use Rattle.hs_agent.specs.declared.input.Input.TheVariants as inputs
use Rattle.hs_agent.specs.Keeping.{PlainAgent}
use Rattle.hs_agent.specs.Points.{sheet_in}
use Rattle.hs_agent.specs.Runs.{AgentRun, Follows, input_of, buffers_in}
use Rattle.hs_law_journal.specs.LoopPasses.{HandsReady}
use Rattle.hs_law_agent.specs.Laws.{brought_by}
use Rattle.hs_law_agent.specs.Leading.{IsToldBelow}
use Rattle.hs_law_agent.specs.State.{AgentState, start}
use Rattle.hs_law_agent.specs.Stepping.{Chunk, Crumbed, Triggered, Asked, Turn, AgentEvent, Took, Gave, after}
use Rattle.hs_records.specs.Plain.{PlainWorkload}
use Rattle.hs_ring.specs.Parts.{Leased}
use Rattle.hs_words.specs.Buffers.{Buffer, buffer_of}
use Rattle.hs_words.specs.Pages.{Sheet}
use Rattle.hs_words.specs.Pools.{PoolName}
use Rattle.hs_run_actors.specs.Work.{NodeWork, with_events, triggered}

-- ---- what may come

-- a chunk of the node's pool with a page of this client in it
pub record IsPageOf (W : PlainWorkload) (node : ℕ) (pool : PoolName) (client : ℕ) (buffer : Buffer Leased) : Type 0 where
  pub sheet : Sheet
  pub page : buffer.chunk.page ≡ Some sheet
  pub owner : sheet.header.client ≡ record { node = node; number = client }
  pub low : client < W.settings.clients
  pub size : buffer.chunk.size ≡ W.settings.size
  pub pool_is : buffer.lease.pool ≡ pool

abbrev pub IsAskable : PlainWorkload → Ask → Type 0
IsAskable W ask = is_declared W.settings.triggers ask.group.trigger ≡ true

-- An event has only clients, nodes and trigger ids that there are, and a chunk's page is its client's.
abbrev pub IsWithin : PlainWorkload → ℕ → AgentEvent → Type 0
IsWithin W node (Took (Chunk client sheet)) = (client < W.settings.clients) × (sheet.header.client ≡ record { node = node; number = client })
IsWithin W node (Took (Crumbed client crumb)) = (client < W.settings.clients) × (crumb.node.0 < W.settings.nodes)
IsWithin W node (Took (Triggered client trigger)) = (client < W.settings.clients) × (is_declared W.settings.triggers trigger.trigger ≡ true)
IsWithin W node (Took (Asked ask)) = IsAskable W ask
IsWithin W node (Took Turn) = Unit {0}
IsWithin W node (Gave answer) = Unit {0}

-- what an agent tells, and the coordinator may hear
pub record IsTellable (W : PlainWorkload) (told : Told) : Type 0 where
  pub nodes : IsToldBelow W.settings.nodes told
  pub trigger : is_declared W.settings.triggers told.group.trigger ≡ true

-- An input may be taken next.
abbrev pub MayCome : {g : _} → PlainWorkload → NodeWork → Input Leased g → Type 0
MayCome W work (inputs.Chunk client held) = IsPageOf W work.node work.pool client (buffer_of held)
MayCome W work (inputs.Crumb client crumb) = (client < W.settings.clients) × (crumb.node.0 < W.settings.nodes)
MayCome W work (inputs.Trigger client trigger) =
    (client < W.settings.clients) × (is_declared W.settings.triggers trigger.trigger ≡ true) × (triggered work.events + 1 < 2 ^ 32)
MayCome W work (inputs.Ask ask) = IsAskable W ask
MayCome W work inputs.Turn = Unit {0}

abbrev pub with_input : {g : _} → Input Leased g → NodeWork → NodeWork
with_input input work = with_events (Took (input_of input) ∷ []) (buffers_in input) work

-- ---- what stands

-- the number of a chunk and its lease, which stay when the pool takes the page out
pub record Label : Type 0 where
  pub number : ℕ
  pub lease : Leased

abbrev pub label_of : Buffer Leased → Label
label_of buffer = record { number = buffer.chunk.number; lease = buffer.lease }

-- a chunk of the node's pool
pub record IsPooled (W : PlainWorkload) (pool : PoolName) (buffer : Buffer Leased) : Type 0 where
  pub size : buffer.chunk.size ≡ W.settings.size
  pub pool_is : buffer.lease.pool ≡ pool

-- the run of the agent, where its chunks came last in these buffers
abbrev pub run_at : PlainWorkload → NodeWork → List (Buffer Leased) → Option ℕ → AgentRun Leased
run_at W work buffers offered = record { settings = W.settings; node = work.node; start = start W.settings; events = work.events; buffers = buffers; offered = offered; keeps = true }

abbrev pub state_at : PlainWorkload → NodeWork → AgentState
state_at W work = after W.settings work.node work.events

-- the chunk has a page of a client of the node
pub record IsPageThere (W : PlainWorkload) (node : ℕ) (pool : PoolName) (buffer : Buffer Leased) : Type 0 where
  pub client : ℕ
  pub is : IsPageOf W node pool client buffer

pub record AgentIs (W : PlainWorkload) (work : NodeWork) (offered : Option ℕ) (agent : PlainAgent Leased) : Type 0 where
  pub buffers : List (Buffer Leased)
  pub follows : Follows agent (run_at W work buffers offered)
  pub labels : map label_of buffers ≡ map label_of work.came
  pub pooled : AllByRecursion (IsPooled W work.pool) buffers
  pub pages : AllByRecursion (IsPageThere W work.node work.pool) work.came
  pub sheets : map sheet_in work.came ≡ flat_map brought_by work.events
  pub within : AllByRecursion (IsWithin W work.node) work.events
  pub hands : HandsReady W.settings work.node (start W.settings) work.events

-- The agent is between two steps, and of what it said these messages were not fetched.
pub record AgentWorks (W : PlainWorkload) (work : NodeWork) (agent : PlainAgent Leased) (said : List Told) : Type 0 where
  pub is : AgentIs W work None agent
  pub said_is : work.moved ++ said ≡ (state_at W work).said
