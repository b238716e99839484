-- What a journal comes to when it is followed, which is to perform its steps one after another. A step of an agent takes the next
-- item of its queue, and is ready once that item was sent; an offer is ready while the hand has a buffer; and the coordinator
-- takes a message once it was told. The lowest node that is ready goes first, and the coordinator last. A journal can be followed
-- if no step is left.
use Rattle.std.specs.Prelude.{ℕ, zero, suc, ◌+◌, Bool, true, false, ◌&&◌, ◌==◌, List, [], ◌∷◌, ◌++◌, length, map, Option, Some, None, unwrap_or, option_map, slice_get, count_by, sum_by, if◌then◌else◌}
use Rattle.std.specs.List.{range_with_len, list_all}
use Rattle.std.specs.Option.{option_and_then}
use Rattle.hs_base.specs.declared.ids.NodeId.{NodeId}
use Rattle.hs_base.specs.declared.told.Ask.{Ask}
use Rattle.hs_coord.specs.Following.{Message, Messages, message, first_of, is_newly_asked}
use Rattle.hs_records.specs.declared.journal.Step.{Step}
use Rattle.hs_records.specs.declared.journal.Step.TheVariants as steps
use Rattle.hs_records.specs.Journals.{PlainJournal}
use Rattle.hs_law_agent.specs.State.{AgentState, start}
use Rattle.hs_law_agent.specs.Stepping.{Answered, Given, Missed, Unread, Chunk, Crumbed, Triggered, Asked, Turn, AgentEvent, Took, Gave, after_event}
use Rattle.hs_records.specs.Plain.{PlainSettings, PlainWorkload}
use Rattle.hs_client.specs.Sending.{Sent, ClientSends, node_sends}

-- ---- queues

-- what an agent takes from: three queues of each client, named by its number at the node, and the asks
pub data Queue : Type 0 where
  Chunks : (client : ℕ) → Queue
  Crumbs : (client : ℕ) → Queue
  Triggers : (client : ℕ) → Queue
  Asks : Queue

-- whether a step takes from the queue
abbrev pub takes : Queue → Step → Bool
takes (Chunks client) (steps.Chunk other) = other == client
takes (Crumbs client) (steps.Crumb other) = other == client
takes (Triggers client) (steps.Trigger other) = other == client
takes Asks steps.Ask = true
takes _ _ = false

-- how many items of the queue these steps take
abbrev pub taken : Queue → List Step → ℕ
taken queue log = count_by (takes queue) log

-- ---- asks

-- the ask of a node to which a message leads, behind those before it
abbrev pub ask_by : ℕ → Messages → Message → List Ask
ask_by node before m =
    let first = (first_of before m).told in
    if is_newly_asked before m node then record { group = first.group; laterals = first.laterals } ∷ [] else []

abbrev pub asks_behind : ℕ → Messages → Messages → List Ask
asks_behind node before [] = []
asks_behind node before (m ∷ later) = ask_by node before m ++ asks_behind node (before ++ m ∷ []) later

-- the asks that were sent to a node when the coordinator had taken these messages
abbrev pub asks_to : ℕ → Messages → List Ask
asks_to node heard = asks_behind node [] heard

-- ---- what stands while a journal is followed

-- a node: what its clients send, the steps that are left of its log, and its agent, with the events that led to its state
pub record NodeRun : Type 0 where
  pub node : ℕ
  pub sends : List ClientSends
  pub left : List Step
  pub events : List AgentEvent
  pub state : AgentState

-- the nodes, the nodes whose messages are still to be taken, and the messages that the coordinator took
pub record Run : Type 0 where
  pub nodes : List NodeRun
  pub left : List NodeId
  pub heard : Messages

-- the steps of a node's agent
abbrev pub log_at : PlainJournal → ℕ → List Step
log_at J node = unwrap_or (slice_get J.logs node) []

abbrev pub node_start : PlainWorkload → PlainJournal → ℕ → NodeRun
node_start W J node =
    record {
      node = node;
      sends = node_sends W J node;
      left = log_at J node;
      events = [];
      state = start W.settings;
    }

-- nothing was performed
abbrev pub run_start : PlainWorkload → PlainJournal → Run
run_start W J = record { nodes = map (node_start W J) (range_with_len 0 W.settings.nodes); left = J.told; heard = [] }

-- ---- a node's step

-- the next item of a queue with these
abbrev pub next_of : {A : Type 0} → Queue → AgentState → List (Sent A) → Option A
next_of queue state items = option_map (λ item. item.item) (slice_get items (taken queue state.log))

-- the answer to an offer, where there is one to make
abbrev pub offered : AgentState → Answered → Option AgentEvent
offered state answer = option_map (λ _. Gave answer) (slice_get state.hand 0)

-- what a step is at its node, where it is ready
abbrev pub event_of : NodeRun → Messages → Step → Option AgentEvent
event_of run heard (steps.Chunk client) =
    option_and_then (λ (sends : ClientSends). option_map (λ sheet. Took (Chunk client sheet)) (next_of (Chunks client) run.state sends.chunks)) (slice_get run.sends client)
event_of run heard (steps.Crumb client) =
    option_and_then (λ (sends : ClientSends). option_map (λ crumb. Took (Crumbed client crumb)) (next_of (Crumbs client) run.state sends.crumbs)) (slice_get run.sends client)
event_of run heard (steps.Trigger client) =
    option_and_then (λ (sends : ClientSends). option_map (λ trigger. Took (Triggered client trigger)) (next_of (Triggers client) run.state sends.triggers)) (slice_get run.sends client)
event_of run heard steps.Ask = option_map (λ ask. Took (Asked ask)) (slice_get (asks_to run.node heard) (taken Asks run.state.log))
event_of run heard steps.Turn = Some (Took Turn)
event_of run heard (steps.Given stamp) = offered run.state (Given stamp)
event_of run heard (steps.Missed stamp) = offered run.state (Missed stamp)
event_of run heard steps.Unread = offered run.state Unread

-- the node with one step performed, which leaves these
abbrev pub perform : PlainSettings → List Step → NodeRun → AgentEvent → NodeRun
perform settings rest run event = record run { left = rest; events = run.events ++ event ∷ []; state = after_event settings run.node run.state event }

abbrev pub step_of : PlainSettings → Messages → NodeRun → List Step → Option NodeRun
step_of settings heard run [] = None
step_of settings heard run (step ∷ rest) = option_map (perform settings rest run) (event_of run heard step)

-- the node behind its next step, where that is ready
abbrev pub step_node : PlainSettings → Messages → NodeRun → Option NodeRun
step_node settings heard run = step_of settings heard run run.left

-- the nodes behind the next step of the first that is ready
abbrev pub step_lowest : PlainSettings → Messages → List NodeRun → Option (List NodeRun)
step_lowest settings heard [] = None
step_lowest settings heard (run ∷ runs) =
    elim (step_node settings heard run) [ Some stepped ↦ Some (stepped ∷ runs) | None ↦ option_map (λ later. run ∷ later) (step_lowest settings heard runs) ]

-- ---- the coordinator's step

abbrev pub is_from : NodeId → Message → Bool
is_from node m = m.node.0 == node.0

-- the next message of a node, where it was told
abbrev pub message_of : List NodeRun → Messages → NodeId → Option Message
message_of runs heard node =
    option_and_then (λ (run : NodeRun). option_map (message node) (slice_get run.state.said (count_by (is_from node) heard))) (slice_get runs node.0)

abbrev pub hear : Run → List NodeId → Option Run
hear run [] = None
hear run (node ∷ rest) = option_map (λ m. record run { left = rest; heard = run.heard ++ m ∷ [] }) (message_of run.nodes run.heard node)

-- ---- all steps

-- the run behind its next step, where one is ready
abbrev pub step_run : PlainSettings → Run → Option Run
step_run settings run =
    elim (step_lowest settings run.heard run.nodes) [ Some nodes ↦ Some (record run { nodes = nodes }) | None ↦ hear run run.left ]

-- the run behind so many steps, or fewer where none is ready
abbrev pub follow : ℕ → PlainSettings → Run → Run
follow zero settings run = run
follow (suc more) settings run = elim (step_run settings run) [ Some next ↦ follow more settings next | None ↦ run ]

abbrev pub step_count : PlainJournal → ℕ
step_count J = sum_by length J.logs + length J.told

-- the run in which as many steps of the journal were performed as can be
abbrev pub followed : PlainWorkload → PlainJournal → Run
followed W J = follow (step_count J) W.settings (run_start W J)

-- whether no step is left
abbrev pub is_done : Run → Bool
is_done run = list_all (λ (node : NodeRun). length node.left == 0) run.nodes && length run.left == 0
