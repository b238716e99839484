-- What may be relied on at each node of whatever journal is followed for a valid workload: what is ready may be taken, since what
-- clients send, agents tell and the coordinator asks names nodes and trigger ids of the workload.
use Rattle.std.specs.Prelude.{◌≡◌, ℕ, ◌+◌, ◌<◌, ◌^◌, true, slice_get, Some}
use Rattle.std.specs.List.{AllByRecursion}
use Rattle.hs_base.specs.Rules.{is_declared}
use Rattle.hs_records.specs.declared.journal.Step.{Step}
use Rattle.hs_law_agent.specs.Leading.{IsToldBelow}
use Rattle.hs_law_agent.specs.State.{AgentState}
use Rattle.hs_law_agent.specs.Stepping.{Input, Chunk, Crumbed, Triggered, Asked, Turn, Took}
use Rattle.hs_records.specs.Plain.{PlainSettings, PlainWorkload}
use Rattle.hs_records.specs.Validity.{IsValid}
use Rattle.hs_records.specs.Journals.{PlainJournal}
use Rattle.hs_law_journal.specs.Following.{NodeRun, Run, run_start, event_of}
use Rattle.hs_law_journal.specs.Orders.{Leads}

-- The agent of this node in this state may take the input: it names a client's own chunk, nodes that there are, declared trigger ids,
-- and groups are numbered with 32 bits.
abbrev pub MayTake : PlainSettings → ℕ → AgentState → Input → Type 0
MayTake settings node state (Chunk client sheet) = sheet.header.client ≡ record { node = node; number = client }
MayTake settings node state (Crumbed client crumb) = crumb.node.0 < settings.nodes
MayTake settings node state (Triggered client trigger) = (is_declared settings.triggers trigger.trigger ≡ true) × (state.admitted + 1 < 2 ^ 32)
MayTake settings node state (Asked ask) = is_declared settings.triggers ask.group.trigger ≡ true
MayTake settings node state Turn = Unit {0}

-- A node of a run: what is ready may be taken, and what was told leads to nodes that there are.
pub record Fits (W : PlainWorkload) (run : Run) (i : ℕ) (node : NodeRun) : Type 0 where
  pub takes : (step : Step) (input : Input) → event_of node run.heard step ≡ Some (Took input) → MayTake W.settings i node.state input
  pub told : AllByRecursion (IsToldBelow W.settings.nodes) node.state.said

-- In whatever order the steps of whatever journal are performed, each when it is ready.
abbrev pub RunsFit : Type 0
RunsFit =
    (W : PlainWorkload) → IsValid W → (J : PlainJournal) (run : Run) → Leads W.settings (run_start W J) run → (i : ℕ) (node : NodeRun) → slice_get run.nodes i ≡ Some node
    → Fits W run i node
