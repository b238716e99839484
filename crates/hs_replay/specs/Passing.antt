-- A node amid a pass of its agent: it has performed some steps since its machine stood still, each of which was ready.
use Rattle.std.specs.Prelude.{◌≡◌, ℕ, ◌-◌, ◌<◌, ◌≤◌, ◌+◌, replicate, take, Bool, true, false, List, [], ◌∷◌, ◌++◌, length, Some}
use Rattle.std.specs.List.{flat_map, range_with_len}
use Rattle.hs_agent.specs.declared.input.Input.{Input}
use Rattle.hs_agent.specs.declared.input.Input.TheVariants as inputs
use Rattle.hs_agent.specs.Runs.{IsChunkFor, input_of}
use Rattle.hs_records.specs.declared.journal.Step.{Step}
use Rattle.hs_law_journal.specs.Following.{NodeRun, event_of, taken, asks_to}
use Rattle.hs_law_journal.specs.Pooled.{pool_history}
use Rattle.hs_law_run.specs.Lockstep.{Machine, done_at, takes_from, give_steps}
use Rattle.hs_law_run.specs.Parts.{node_at, heard_in}
use Rattle.hs_law_journal.specs.Performing.{after_steps}
use Rattle.hs_law_run.specs.Reaching.{IsReached}
use Rattle.hs_law_agent.specs.Stepping.{Took, step_of}
use Rattle.hs_records.specs.Plain.{PlainSettings, PlainWorkload}
use Rattle.hs_client.specs.Sending.{client_sends, place_of, sent_within}
use Rattle.hs_words.specs.Buffers.{buffer_of}
use Rattle.hs_records.specs.Validity.{IsValid}
use Rattle.hs_replay.specs.declared.queue.Queue.{Queue}
use Rattle.hs_replay.specs.declared.queue.Queue.TheVariants as queues
use Rattle.hs_replay.specs.Parts.{PlainReplayNode}
use Rattle.hs_replay.specs.Queues.{queue_of, step_from}
use Rattle.hs_replay.specs.Standing.{IsLent, ReplayNodeStands, NodeIsAt}

-- The run of the node came by these steps since the machine.
pub record ComesFrom (W : PlainWorkload) (m : Machine) (n : ℕ) (run : NodeRun) : Type 0 where
  pub valid : IsValid W
  pub reached : IsReached W m
  pub start : NodeRun
  pub at : node_at W m.journal n ≡ Some start
  pub steps : List Step
  pub came : after_steps W.settings (heard_in W m.journal) steps start ≡ Some run
  pub number : run.node ≡ n

-- The parts stand where this run does, and nothing happened at the pool.
pub record IsAmid (W : PlainWorkload) (m : Machine) (n : ℕ) (run : NodeRun) (node : PlainReplayNode) : Type 0 where
  pub comes : ComesFrom W m n run
  pub stands : ReplayNodeStands W m (heard_in W m.journal) (pool_history comes.start) run run.state.log node

-- ---- taking

-- A chunk is one of its client's, in the buffer of its page's draw.
abbrev pub FitsChunk : {g : _} → PlainSettings → NodeRun → Input (Unit {0}) g → Type 0
FitsChunk settings run (inputs.Chunk client held) = IsChunkFor settings run.node client (buffer_of held) × IsLent settings run (buffer_of held)
FitsChunk settings run (inputs.Crumb client crumb) = Unit {0}
FitsChunk settings run (inputs.Trigger client trigger) = Unit {0}
FitsChunk settings run (inputs.Ask ask) = Unit {0}
FitsChunk settings run inputs.Turn = Unit {0}

-- The next item of a queue was taken out for the agent, which has not taken it yet.
pub record IsReady {g : _} (W : PlainWorkload) (m : Machine) (n : ℕ) (run : NodeRun) (step : Step) (input : Input (Unit {0}) g) (node : PlainReplayNode) : Type 0 where
  pub comes : ComesFrom W m n run
  pub stands : ReplayNodeStands W m (heard_in W m.journal) (pool_history comes.start) run (run.state.log ++ step ∷ []) node
  pub ready : event_of run (heard_in W m.journal) step ≡ Some (Took (input_of input))
  pub noted : step_of (input_of input) ≡ step
  pub chunk : FitsChunk W.settings run input

-- how many items of a queue were sent, taken or not
abbrev pub sent_to : PlainWorkload → Machine → ℕ → Queue → ℕ
sent_to W m n (queues.Chunks client) = length (sent_within (done_at m (place_of W.settings.clients n client)) (client_sends W m.journal n client).chunks)
sent_to W m n (queues.Crumbs client) = length (sent_within (done_at m (place_of W.settings.clients n client)) (client_sends W m.journal n client).crumbs)
sent_to W m n (queues.Triggers client) = length (sent_within (done_at m (place_of W.settings.clients n client)) (client_sends W m.journal n client).triggers)
sent_to W m n queues.Asks = length (asks_to n (heard_in W m.journal))

-- All that was sent to the queue was taken.
pub record IsDrained (W : PlainWorkload) (m : Machine) (n : ℕ) (queue : Queue) (run : NodeRun) (node : PlainReplayNode) : Type 0 where
  pub amid : IsAmid W m n run node
  pub none : taken (queue_of queue) run.state.log ≡ sent_to W m run.node queue

-- An item was taken out that was sent.
pub record IsThere {g : _} (W : PlainWorkload) (m : Machine) (n : ℕ) (queue : Queue) (run : NodeRun) (input : Input (Unit {0}) g) (node : PlainReplayNode) : Type 0 where
  pub ready : IsReady W m n run (step_from queue) input node
  pub within : taken (queue_of queue) run.state.log < sent_to W m run.node queue

-- The node performed these steps behind a run.
pub record WentBy (W : PlainWorkload) (m : Machine) (n : ℕ) (run : NodeRun) (steps : List Step) (node : PlainReplayNode) : Type 0 where
  pub next : NodeRun
  pub by : after_steps W.settings (heard_in W m.journal) steps run ≡ Some next
  pub log : next.state.log ≡ run.state.log ++ steps
  pub amid : IsAmid W m n next node

-- The agent took the next item of a queue.
pub record TookOne (W : PlainWorkload) (m : Machine) (n : ℕ) (queue : Queue) (run : NodeRun) (node : PlainReplayNode) : Type 0 where
  pub went : WentBy W m n run (step_from queue ∷ []) node
  pub within : taken (queue_of queue) run.state.log < sent_to W m run.node queue

-- The agent took the next item of a queue, where there was one.
abbrev pub TakesNext : PlainWorkload → Machine → ℕ → Queue → NodeRun → PlainReplayNode → Bool → Type 0
TakesNext W m n queue run node true = TookOne W m n queue run node
TakesNext W m n queue run node false = IsDrained W m n queue run node

-- as many steps as there are items in a queue, but at most so many as a pass takes
abbrev pub takes_by : PlainWorkload → Machine → NodeRun → Queue → List Step
takes_by W m run queue = takes_from run (queue_of queue) (step_from queue) (sent_to W m run.node queue)

-- The agent took so many items of a queue, which were there.
pub record TookSome (W : PlainWorkload) (m : Machine) (n : ℕ) (queue : Queue) (run : NodeRun) (count : ℕ) (node : PlainReplayNode) : Type 0 where
  pub went : WentBy W m n run (replicate count (step_from queue)) node
  pub few : count ≤ sent_to W m run.node queue - taken (queue_of queue) run.state.log

-- what the agent takes from a client, and from the first so many clients
abbrev pub takes_of_client : PlainWorkload → Machine → NodeRun → ℕ → List Step
takes_of_client W m run client =
    takes_by W m run (queues.Chunks client) ++ takes_by W m run (queues.Crumbs client) ++ takes_by W m run (queues.Triggers client)

abbrev pub takes_first : PlainWorkload → Machine → NodeRun → ℕ → List Step
takes_first W m run count = flat_map (takes_of_client W m run) (range_with_len 0 count)

-- The agent took what waited in the queues of a client.
abbrev pub WentOf : PlainWorkload → Machine → ℕ → NodeRun → ℕ → PlainReplayNode → Type 0
WentOf W m n run client node = WentBy W m n run (takes_of_client W m run client) node

-- A node that is where a machine says, on the way through the schedule of a valid workload.
pub record StandsStill (W : PlainWorkload) (m : Machine) (n : ℕ) (node : PlainReplayNode) : Type 0 where
  pub valid : IsValid W
  pub reached : IsReached W m
  pub at : NodeIsAt W m n node

-- ---- giving

-- The node gave so many buffers since the machine stood still.
pub record IsGiving (W : PlainWorkload) (m : Machine) (n : ℕ) (start : NodeRun) (given : ℕ) (node : PlainReplayNode) : Type 0 where
  pub valid : IsValid W
  pub reached : IsReached W m
  pub at : node_at W m.journal n ≡ Some start
  pub within : given ≤ length start.state.hand
  pub run : NodeRun
  pub by : after_steps W.settings (heard_in W m.journal) (take given (give_steps start)) start ≡ Some run
  pub number : run.node ≡ n
  pub stands : ReplayNodeStands W m (heard_in W m.journal) (pool_history run) run run.state.log node

-- The first of the hand was given, where there was one.
abbrev pub GivesNextOf : PlainWorkload → Machine → ℕ → NodeRun → ℕ → PlainReplayNode → Bool → Type 0
GivesNextOf W m n start given node true = IsGiving W m n start (given + 1) node
GivesNextOf W m n start given node false = IsGiving W m n start given node × (given ≡ length start.state.hand)
