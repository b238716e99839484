-- A run of an agent: its settings, its node, where it began, the events since, and of each chunk that it took the buffer as it came last,
-- with its lease. An agent that memory failed follows no run any more.
use Rattle.std.specs.Prelude.{◌≡◌, ℕ, ◌+◌, ◌<◌, ◌≤◌, ◌^◌, Bool, if◌then◌else◌, true, false, List, [], ◌∷◌, ◌++◌, slice_get, slice_set, Option, Some, None, IsSome}
use Rattle.std.specs.Option.{option_map_or, option_and_then}
use Rattle.hs_base.specs.Rules.{is_declared}
use Rattle.hs_base.specs.declared.limits.TheConstants.{MOST_NODES}
use Rattle.hs_base.specs.declared.told.Told.{Told}
use Rattle.hs_records.specs.Plain.{PlainSettings}
use Rattle.hs_records.specs.declared.journal.Step.{Step}
use Rattle.hs_sched.specs.Turns.{Schedule, IsSchedule}
use Rattle.hs_words.specs.declared.token.Given.{Given}
use Rattle.hs_words.specs.declared.token.Given.TheVariants as given
use Rattle.hs_words.specs.Buffers.{Buffer, buffer_of}
use Rattle.hs_law_agent.specs.State.{AgentState, start}
use Rattle.hs_law_agent.specs.Laws.{PlacesMatch}
use Rattle.hs_law_agent.specs.Lives.{forget_group}
use Rattle.hs_base.specs.declared.told.Group.{Group}
use Rattle.hs_law_agent.specs.Stepping.{AgentEvent, Took, Gave, Answered, after_from, take_input, told_by}
use Rattle.hs_law_agent.specs.Stepping as model
use Rattle.hs_agent.specs.declared.input.Input.{Input}
use Rattle.hs_agent.specs.declared.input.Input.TheVariants as inputs
use Rattle.hs_agent.specs.Leaving.{came_back}
use Rattle.hs_agent.specs.Keeping.{Kept, PlainAgent, Point, Holds}
use Rattle.hs_agent.specs.Points.{sheet_in}

pub record AgentRun (L : Type 0) : Type 0 where
  pub settings : PlainSettings
  pub node : ℕ
  -- where the events begin
  pub start : AgentState
  pub events : List AgentEvent
  pub buffers : List (Buffer L)
  -- the place of the chunk that was offered and not answered yet
  pub offered : Option ℕ
  -- whether the log and all that is noted can be had
  pub keeps : Bool

-- what the model comes to
abbrev pub state_of : {L : Type 0} → AgentRun L → AgentState
state_of run = after_from run.settings run.node run.start run.events

-- an agent at its beginning
abbrev pub new_run : {L : Type 0} → PlainSettings → ℕ → AgentRun L
new_run settings node = record { settings = settings; node = node; start = start settings; events = []; buffers = []; offered = None; keeps = true }

-- one that keeps no journal
abbrev pub bare_run : {L : Type 0} → PlainSettings → ℕ → AgentRun L
bare_run settings node = record (new_run settings node) { keeps = false }

-- the place of the first of the hand
abbrev pub first_place : AgentState → Option ℕ
first_place state = slice_get state.hand 0

-- where the run has come to
abbrev pub point_of : {L : Type 0} → AgentRun L → Point L
point_of run = record { settings = run.settings; node = run.node; state = state_of run; buffers = run.buffers; offered = run.offered; again = came_back (state_of run).log; keeps = run.keeps }

-- the shares of the trigger ids, and the page size
abbrev pub schedule_of : {L : Type 0} → Point L → Schedule
schedule_of point = record { shares = point.state.shares; size = point.settings.size }

-- what is kept of the chunks, and the shares, are those of this point
pub record StandsAt {L : Type 0} (kept : Kept L) (schedule : Schedule) (point : Point L) : Type 0 where
  pub chunks : Holds kept point
  pub shares : schedule ≡ schedule_of point
  pub is_schedule : IsSchedule schedule
  pub nodes : point.settings.nodes ≤ MOST_NODES

-- the log, where it is kept
abbrev pub log_of : {L : Type 0} → AgentRun L → List Step
log_of run = if run.keeps then (state_of run).log else []

-- a log with a step more, where it is kept
abbrev pub logged : Bool → List Step → Step → List Step
logged keeps log step = if keeps then log ++ step ∷ [] else log

-- Memory never failed the agent, and what it keeps is what this run says.
pub record Follows {L : Type 0} (agent : PlainAgent L) (run : AgentRun L) : Type 0 where
  pub working : agent.spent ≡ false
  pub stands : StandsAt agent.kept agent.schedule (point_of run)
  pub keeps : agent.keeps ≡ run.keeps
  pub log : agent.log ≡ log_of run
  pub good : PlacesMatch run.start

-- the run that begins where the group was forgotten
abbrev pub forgetting : {L : Type 0} → Group → AgentRun L → AgentRun L
forgetting group run = record run { start = forget_group group (state_of run); events = [] }

abbrev pub IsSpent : {L : Type 0} → PlainAgent L → Type 0
IsSpent agent = agent.spent ≡ true

-- Memory failed the agent, or it follows some run of which this holds.
abbrev pub Knows : {L : Type 0} → PlainAgent L → (AgentRun L → Type 0) → Type 0
Knows {L} agent fact = agent.spent ≡ false → (run : AgentRun L) × Follows agent run × fact run

-- ---- inputs

abbrev pub input_of : {L : Type 0} {g : _} → Input L g → model.Input
input_of (inputs.Chunk client held) = model.Chunk client (sheet_in (buffer_of held))
input_of (inputs.Crumb client crumb) = model.Crumbed client crumb
input_of (inputs.Trigger client trigger) = model.Triggered client trigger
input_of (inputs.Ask ask) = model.Asked ask
input_of inputs.Turn = model.Turn

-- the chunk that came, if one did
abbrev pub buffers_in : {L : Type 0} {g : _} → Input L g → List (Buffer L)
buffers_in (inputs.Chunk client held) = buffer_of held ∷ []
buffers_in (inputs.Crumb client crumb) = []
buffers_in (inputs.Trigger client trigger) = []
buffers_in (inputs.Ask ask) = []
buffers_in inputs.Turn = []

-- a chunk of this node and client, of the settings' size, whose page was started
pub record IsChunkFor {L : Type 0} (settings : PlainSettings) (node client : ℕ) (buffer : Buffer L) : Type 0 where
  pub started : IsSome buffer.chunk.page
  pub from : (sheet_in buffer).header.client ≡ record { node = node; number = client }
  pub size : buffer.chunk.size ≡ settings.size

-- what may be taken next
abbrev pub IsTakable : {L : Type 0} {g : _} → Point L → Input L g → Type 0
IsTakable point (inputs.Chunk client held) = IsChunkFor point.settings point.node client (buffer_of held)
IsTakable point (inputs.Crumb client crumb) = crumb.node.0 < point.settings.nodes
IsTakable point (inputs.Trigger client trigger) = (is_declared point.settings.triggers trigger.trigger ≡ true) × (point.state.admitted + 1 < 2 ^ 32)
IsTakable point (inputs.Ask ask) = is_declared point.settings.triggers ask.group.trigger ≡ true
IsTakable point inputs.Turn = Unit {0}

-- where an input leads, without its note
abbrev pub taken_in : {L : Type 0} {g : _} → Input L g → Point L → Point L
taken_in input point = record point { state = take_input point.settings point.node point.state (input_of input); buffers = point.buffers ++ buffers_in input }

-- the run after an input
abbrev pub after_input : {L : Type 0} {g : _} → AgentRun L → Input L g → AgentRun L
after_input run input = record run { events = run.events ++ Took (input_of input) ∷ []; buffers = run.buffers ++ buffers_in input }

-- the run after a chunk of a client, and after a turn
abbrev pub after_chunk : {L : Type 0} → AgentRun L → ℕ → Buffer L → AgentRun L
after_chunk run client buffer = record run { events = run.events ++ Took (model.Chunk client (sheet_in buffer)) ∷ []; buffers = run.buffers ++ buffer ∷ [] }

abbrev pub after_turn : {L : Type 0} → AgentRun L → AgentRun L
after_turn run = record run { events = run.events ++ Took model.Turn ∷ [] }

-- what an input makes the agent tell
abbrev pub told_in : {L : Type 0} {g : _} → AgentRun L → Input L g → Option Told
told_in run input = told_by run.settings run.node (state_of run) (input_of input)

-- ---- offers

-- the chunk that is offered next, as it came last
abbrev pub offered_next : {L : Type 0} → AgentRun L → Option (Buffer L)
offered_next run = option_and_then (λ place. slice_get run.buffers place) (first_place (state_of run))

abbrev pub after_offer : {L : Type 0} → AgentRun L → AgentRun L
after_offer run = record run { offered = first_place (state_of run) }

abbrev pub answer_of : {L : Type 0} {g : _} → Given L g → Answered
answer_of (given.Given stamp) = model.Given stamp
answer_of (given.Missed held stamp) = model.Missed stamp
answer_of (given.Unread held) = model.Unread

-- the chunk that came back, if one did
abbrev pub back_in : {L : Type 0} {g : _} → Given L g → Option (Buffer L)
back_in (given.Given stamp) = None
back_in (given.Missed held stamp) = Some (buffer_of held)
back_in (given.Unread held) = Some (buffer_of held)

-- with a chunk that came back, in place of the one that was offered
abbrev pub with_back : {L : Type 0} → AgentRun L → Option (Buffer L) → List (Buffer L)
with_back run back = option_map_or (λ buffer. option_map_or (λ place. slice_set run.buffers place buffer) run.offered run.buffers) back run.buffers

-- the run after the pool's answer
abbrev pub after_answer : {L : Type 0} {g : _} → AgentRun L → Given L g → AgentRun L
after_answer run answer = record run { events = run.events ++ Gave (answer_of answer) ∷ []; buffers = with_back run (back_in answer); offered = None }
