-- Where the parts of a node stand when its machine of the lockstep schedule stands somewhere. Each client has done as many operations as
-- the machine says, at the draws of the journal, and of what it sent the agent took what the log says. The agent follows the events of
-- the node's run. The pool is after its history. Asks wait that the agent did not take, and messages that the coordinator did not hear.
use Rattle.std.specs.Prelude.{◌≡◌, ℕ, List, ◌++◌, length, map, slice_get, Option, Some, None, count_by, true}
use Rattle.std.specs.List.{AllByRecursion}
use Rattle.std.specs.Option.{option_and_then}
use Rattle.hs_agent.specs.Keeping.{PlainAgent}
use Rattle.hs_agent.specs.Points.{sheet_in}
use Rattle.hs_agent.specs.Runs as agents
use Rattle.hs_coord.specs.Following.{Messages}
use Rattle.hs_records.specs.declared.journal.Step.{Step}
use Rattle.hs_law_journal.specs.Following.{Chunks, Crumbs, Triggers, Asks, taken, asks_to, is_from, NodeRun}
use Rattle.hs_law_journal.specs.Pooled.{buffer_of, page_of, pool_history}
use Rattle.hs_law_run.specs.Lockstep.{Machine, done_at}
use Rattle.hs_law_run.specs.Parts.{node_at, heard_in}
use Rattle.hs_law_agent.specs.Laws.{sheets_of}
use Rattle.hs_law_agent.specs.State.{start}
use Rattle.hs_law_agent.specs.Stepping.{after}
use Rattle.hs_replay_client.specs.Places.{ReplayClientIsAt}
use Rattle.hs_replay_client.specs.ReplayClients.{PlainReplayClient}
use Rattle.hs_pool.specs.Pool.{Pool, IsAfter, HasSize}
use Rattle.hs_records.specs.Plain.{PlainSettings, PlainWorkload}
use Rattle.hs_client.specs.Drawn.{DrawnPage}
use Rattle.hs_client.specs.Sending.{draws_at, node_sends, operations_at, place_of}
use Rattle.hs_words.specs.Buffers.{Buffer}
use Rattle.hs_words.specs.PoolHistory.{PoolEvent}
use Rattle.hs_replay.specs.Parts.{PlainReplayNode}

-- ---- queues

-- The first so many items of a list are gone, and these are left.
pub record Remain {A : Type 0} (gone : ℕ) (all rest : List A) : Type 0 where
  pub front : List A
  pub all_is : all ≡ front ++ rest
  pub count : length front ≡ gone

-- ---- clients

-- the client of this number at a node whose agent has this log
abbrev pub ReplayClientStands : PlainWorkload → Machine → ℕ → List Step → ℕ → PlainReplayClient → Type 0
ReplayClientStands W m node log client player =
    let place = place_of W.settings.clients node client in
    ReplayClientIsAt W.settings (record { node = node; number = client }) (operations_at W place) (draws_at m.journal place) (done_at m place)
    (taken (Chunks client) log) (taken (Crumbs client) log) (taken (Triggers client) log) player

pub record ReplayClientsStand (W : PlainWorkload) (m : Machine) (node : ℕ) (log : List Step) (players : List PlainReplayClient) : Type 0 where
  pub count : length players ≡ W.settings.clients
  pub each : (client : ℕ) (player : PlainReplayClient) → slice_get players client ≡ Some player → ReplayClientStands W m node log client player

-- ---- the agent

-- the run of the agent at a node's run, where the chunks came in these buffers
abbrev pub run_of : PlainSettings → NodeRun → List (Buffer (Unit {0})) → Option ℕ → agents.AgentRun (Unit {0})
run_of settings run buffers offered = record { settings = settings; node = run.node; start = start settings; events = run.events; buffers = buffers; offered = offered; keeps = true }

-- the buffer that the page of a chunk drew
abbrev pub buffer_drawn : NodeRun → Buffer (Unit {0}) → Option ℕ
buffer_drawn run buffer = option_and_then (λ (page : DrawnPage). buffer_of page.draw) (page_of run (sheet_in buffer))

-- The chunk came in the buffer of its page's draw, which has the size of all.
pub record IsLent (settings : PlainSettings) (run : NodeRun) (buffer : Buffer (Unit {0})) : Type 0 where
  pub drawn : buffer_drawn run buffer ≡ Some buffer.chunk.number
  pub size : buffer.chunk.size ≡ settings.size

-- The agent follows the events of the node's run, and each chunk that it took came in the buffer of its page's draw.
pub record ReplayAgentStands (settings : PlainSettings) (run : NodeRun) (offered : Option ℕ) (agent : PlainAgent (Unit {0})) : Type 0 where
  pub buffers : List (Buffer (Unit {0}))
  pub follows : agents.Follows agent (run_of settings run buffers offered)
  pub comes : run.state ≡ after settings run.node run.events
  pub lent : AllByRecursion (IsLent settings run) buffers
  pub sheets : map sheet_in buffers ≡ sheets_of run.state.taken

-- ---- the pool

pub record PoolStands (settings : PlainSettings) (history : List PoolEvent) (pool : Pool) : Type 0 where
  pub after : IsAfter history pool
  pub buffers : pool.buffers ≡ settings.buffers
  pub size : HasSize settings.size pool

-- ---- the node

-- Where a node's run stands so and the coordinator heard these messages: what has this log taken, the parts are where they belong.
pub record ReplayNodeStands (W : PlainWorkload) (m : Machine) (heard : Messages) (history : List PoolEvent) (run : NodeRun) (log : List Step) (node : PlainReplayNode) : Type 0 where
  pub sends : run.sends ≡ node_sends W m.journal run.node
  pub players : ReplayClientsStand W m run.node log node.players
  pub agent : ReplayAgentStands W.settings run None node.agent
  pub pool : PoolStands W.settings history node.pool
  pub asks : Remain (taken Asks log) (asks_to run.node heard) node.asks
  pub said : Remain (count_by (is_from (record { 0 = run.node })) heard) run.state.said node.said

-- The node of this number is where the machine says, when the coordinator has heard these messages.
pub record NodeIsHeard (W : PlainWorkload) (m : Machine) (heard : Messages) (n : ℕ) (node : PlainReplayNode) : Type 0 where
  pub run : NodeRun
  pub at : node_at W m.journal n ≡ Some run
  pub number : run.node ≡ n
  pub stands : ReplayNodeStands W m heard (pool_history run) run run.state.log node

-- The node of this number is where the machine says.
abbrev pub NodeIsAt : PlainWorkload → Machine → ℕ → PlainReplayNode → Type 0
NodeIsAt W m n node = NodeIsHeard W m (heard_in W m.journal) n node
