-- An agent of node 0 whose pages are of 64 bytes and which knows the trigger id 1, after so many events at most, with no chunk out. It
-- forgot no group.
use Rattle.std.specs.Prelude.{◌≡◌, ℕ, ◌<◌, ◌≤◌, length, None, true, IsSome}
use Rattle.hs_base.specs.declared.limits.TheConstants.{MIN_SIZE, MAX_NODES}
use Rattle.hs_base.specs.Rules.{is_declared}
use Rattle.hs_base.specs.declared.ids.TriggerId.{TriggerId}
use Rattle.hs_words.specs.Buffers.{Buffer, buffer_of}
use Rattle.hs_agent.specs.declared.input.Input.{Input}
use Rattle.hs_agent.specs.declared.input.Input.TheVariants as inputs
use Rattle.hs_agent.specs.Keeping.{PlainAgent}
use Rattle.hs_agent.specs.Points.{sheet_in}
use Rattle.hs_agent.specs.Runs.{AgentRun, Knows}
use Rattle.hs_law_agent.specs.State.{start}

abbrev pub first_id : TriggerId
first_id = record { 0 = 1 }

pub record IsOfSite {L : Type 0} (run : AgentRun L) : Type 0 where
  pub node : run.node ≡ 0
  pub size : run.settings.size ≡ MIN_SIZE
  pub nodes : run.settings.nodes ≡ MAX_NODES
  pub declared : is_declared run.settings.triggers first_id ≡ true
  pub begins : run.start ≡ start run.settings

pub record IsRested {L : Type 0} (events : ℕ) (run : AgentRun L) : Type 0 where
  pub site : IsOfSite run
  pub few : length run.events ≤ events
  pub offered : run.offered ≡ None

abbrev pub IsReady : {L : Type 0} → ℕ → PlainAgent L → Type 0
IsReady events agent = Knows agent (IsRested events)

-- and with one chunk out
pub record IsWaiting {L : Type 0} (events : ℕ) (run : AgentRun L) : Type 0 where
  pub site : IsOfSite run
  pub few : length run.events ≤ events
  pub offered : IsSome run.offered

-- a chunk of node 0 and this client, whose page was started
pub record IsPageOf {L : Type 0} (client : ℕ) (buffer : Buffer L) : Type 0 where
  pub started : IsSome buffer.chunk.page
  pub from : (sheet_in buffer).header.client ≡ record { node = 0; number = client }
  pub size : buffer.chunk.size ≡ MIN_SIZE

-- what such an agent may take
abbrev pub Fits : {L : Type 0} {g : _} → Input L g → Type 0
Fits (inputs.Chunk client held) = IsPageOf client (buffer_of held)
Fits (inputs.Crumb client crumb) = crumb.node.0 < MAX_NODES
Fits (inputs.Trigger client trigger) = trigger.trigger ≡ first_id
Fits (inputs.Ask ask) = ask.group.trigger ≡ first_id
Fits inputs.Turn = Unit {0}
