-- Where the parts of a node stand when its run does: its clients' queues have what its agent did not take, the agent follows the events of
-- the run, and what it said, which asks it took and which pages it gave back are noted. And what a step does to them.
use Rattle.std.specs.Prelude.{◌≡◌, Bool, true, false, List, [], ◌∷◌, ◌++◌, map, slice_get, Option, Some, None, option_map, IsSome, MatchOption}
use Rattle.std.specs.List.{AllByRecursion}
use Rattle.hs_agent.specs.Keeping.{PlainAgent}
use Rattle.hs_agent.specs.Points.{sheet_in}
use Rattle.hs_agent.specs.Runs as agents
use Rattle.hs_agent.specs.declared.input.Input.{Input}
use Rattle.hs_agent.specs.declared.input.Input.TheVariants as inputs
use Rattle.hs_base.specs.declared.told.Ask.{Ask}
use Rattle.hs_check_follow.specs.declared.found.FoundPage.{FoundPage}
use Rattle.hs_coord.specs.Following.{Messages}
use Rattle.hs_records.specs.Journals.{PlainJournal}
use Rattle.hs_records.specs.declared.journal.Step.{Step}
use Rattle.hs_records.specs.declared.journal.Step.TheVariants as steps
use Rattle.hs_law_journal.specs.Following.{Asks, taken, asks_to, NodeRun, event_of, perform}
use Rattle.hs_law_journal.specs.Fitting.{MayTake}
use Rattle.hs_law_agent.specs.Laws.{sheets_of}
use Rattle.hs_law_agent.specs.State.{AgentState, GivenPlace, start}
use Rattle.hs_law_agent.specs.Stepping as model
use Rattle.hs_law_agent.specs.Stepping.{AgentEvent, Took, step_of, after}
use Rattle.hs_replay_client.specs.ReplayClients.{Unleased}
use Rattle.hs_records.specs.Plain.{PlainSettings, PlainWorkload}
use Rattle.hs_client.specs.Sending.{node_sends}
use Rattle.hs_words.specs.Buffers.{buffer_of}
use Rattle.hs_words.specs.Pages.{Sheet}
use Rattle.hs_check_follow.specs.Clients.{ClientsStand}
use Rattle.hs_check_follow.specs.declared.agent.FollowedAgent.{FollowedAgent}

-- the run of the agent at a node's run, where the chunks came in these buffers
abbrev pub agent_run : PlainSettings → NodeRun → List Unleased → agents.AgentRun (Unit {0})
agent_run settings run buffers = record { settings = settings; node = run.node; start = start settings; events = run.events; buffers = buffers; offered = None; keeps = true }

-- The agent follows the events of the node's run, and each chunk that it took has its page.
pub record FollowedAgentStands (settings : PlainSettings) (run : NodeRun) (agent : PlainAgent (Unit {0})) : Type 0 where
  pub buffers : List Unleased
  pub follows : agents.Follows agent (agent_run settings run buffers)
  pub comes : run.state ≡ after settings run.node run.events
  pub sheets : map sheet_in buffers ≡ sheets_of run.state.taken
  pub paged : AllByRecursion (λ (buffer : Unleased). IsSome buffer.chunk.page) buffers

-- the name of a page
abbrev pub name_of : Sheet → FoundPage
name_of sheet = record { client = sheet.header.client.number; page = sheet.header.page }

-- the name of the page of a chunk that was given back, where these were taken
abbrev pub named_at : AgentState → GivenPlace → Option FoundPage
named_at state given = option_map name_of (slice_get (sheets_of state.taken) given.place)

-- The parts of a node stand where its run does. Of what was sent the agent took what this log says.
pub record FollowedNodeStands (W : PlainWorkload) (J : PlainJournal) (run : NodeRun) (log : List Step) (f : FollowedAgent) : Type 0 where
  pub sends : run.sends ≡ node_sends W J run.node
  pub clients : ClientsStand W J run.node log f.clients.items
  pub agent : FollowedAgentStands W.settings run f.agent
  pub asked : f.asked ≡ taken Asks log
  pub said : f.said.items ≡ run.state.said
  pub gives : map (named_at run.state) run.state.given ≡ map (λ page. Some page) f.gives.items

-- ---- steps

-- a step that takes a crumb, a trigger or an ask, of which something may be told; or that offers a buffer
abbrev pub IsTake : Step → Type 0
IsTake (steps.Chunk client) = ⊥
IsTake (steps.Crumb client) = Unit {0}
IsTake (steps.Trigger client) = Unit {0}
IsTake steps.Ask = Unit {0}
IsTake steps.Turn = ⊥
IsTake (steps.Given stamp) = ⊥
IsTake (steps.Missed stamp) = ⊥
IsTake steps.Unread = ⊥

abbrev pub IsOffer : Step → Type 0
IsOffer (steps.Given stamp) = Unit {0}
IsOffer (steps.Missed stamp) = Unit {0}
IsOffer steps.Unread = Unit {0}
IsOffer _ = ⊥

-- ---- inputs

-- a chunk has a page, in a buffer of the workload's size
abbrev pub FitsChunk : {g : _} → PlainSettings → Input (Unit {0}) g → Type 0
FitsChunk settings (inputs.Chunk client held) = IsSome (buffer_of held).chunk.page × ((buffer_of held).chunk.size ≡ settings.size)
FitsChunk settings (inputs.Crumb client crumb) = Unit {0}
FitsChunk settings (inputs.Trigger client trigger) = Unit {0}
FitsChunk settings (inputs.Ask ask) = Unit {0}
FitsChunk settings inputs.Turn = Unit {0}

-- The input of a step was taken out for the agent, which has not taken it yet.
pub record IsReadied {g : _} (W : PlainWorkload) (J : PlainJournal) (heard : Messages) (run : NodeRun) (step : Step) (input : Input (Unit {0}) g) (f : FollowedAgent) : Type 0 where
  pub stands : FollowedNodeStands W J run (run.state.log ++ step ∷ []) f
  pub ready : event_of run heard step ≡ Some (Took (agents.input_of input))
  pub noted : step_of (agents.input_of input) ≡ step
  pub chunk : FitsChunk W.settings input

-- The step is not ready, and nothing changed.
pub record IsNotReady (W : PlainWorkload) (J : PlainJournal) (heard : Messages) (run : NodeRun) (step : Step) (f : FollowedAgent) : Type 0 where
  pub stands : FollowedNodeStands W J run run.state.log f
  pub none : event_of run heard step ≡ None

-- The input was taken out where the step is ready.
abbrev pub Readies : {g : _} → PlainWorkload → Step → List Ask → FollowedAgent → Option (Input (Unit {0}) g) → FollowedAgent → Type 0
Readies W step asks old answer new =
    (J : PlainJournal) (heard : Messages) (run : NodeRun) → asks ≡ asks_to run.node heard → FollowedNodeStands W J run run.state.log old
    → MatchOption answer (IsNotReady W J heard run step new) (λ input. IsReadied W J heard run step input new)

-- ---- whole steps

-- what the agent may take next
abbrev pub MayTakeNext : PlainWorkload → Messages → NodeRun → Step → Type 0
MayTakeNext W heard run step = (input : model.Input) → event_of run heard step ≡ Some (Took input) → MayTake W.settings run.node run.state input

abbrev pub KnowsRun : FollowedAgent → Type 0
KnowsRun f = (W : PlainWorkload) × (J : PlainJournal) × (run : NodeRun) × FollowedNodeStands W J run run.state.log f

abbrev pub MayPerform : PlainWorkload → Step → List Ask → FollowedAgent → Type 0
MayPerform W step asks f =
    (J : PlainJournal) × (heard : Messages) × (run : NodeRun) × (asks ≡ asks_to run.node heard) × FollowedNodeStands W J run run.state.log f × MayTakeNext W heard run step

-- The step was ready, and its event happened.
pub record HasPerformed (W : PlainWorkload) (J : PlainJournal) (heard : Messages) (run : NodeRun) (step : Step) (f : FollowedAgent) : Type 0 where
  pub event : AgentEvent
  pub ready : event_of run heard step ≡ Some event
  pub stands : FollowedNodeStands W J (perform W.settings [] run event) (perform W.settings [] run event).state.log f

abbrev pub PerformsIf : PlainWorkload → PlainJournal → Messages → NodeRun → Step → FollowedAgent → Bool → Type 0
PerformsIf W J heard run step f true = HasPerformed W J heard run step f
PerformsIf W J heard run step f false = IsNotReady W J heard run step f

abbrev pub Performs : PlainWorkload → Step → List Ask → FollowedAgent → FollowedAgent → Bool → Type 0
Performs W step asks old new done =
    (J : PlainJournal) (heard : Messages) (run : NodeRun) → asks ≡ asks_to run.node heard → FollowedNodeStands W J run run.state.log old → MayTakeNext W heard run step
    → PerformsIf W J heard run step new done

-- the same of a step that takes no ask, whatever the asks are
abbrev pub MayDo : PlainWorkload → Step → FollowedAgent → Type 0
MayDo W step f = (asks : List Ask) × MayPerform W step asks f

abbrev pub Does : PlainWorkload → Step → FollowedAgent → FollowedAgent → Bool → Type 0
Does W step old new done = (asks : List Ask) → Performs W step asks old new done

abbrev pub PerformsOffer : Step → FollowedAgent → FollowedAgent → Bool → Type 0
PerformsOffer step old new done = (W : PlainWorkload) (J : PlainJournal) (heard : Messages) (run : NodeRun) → FollowedNodeStands W J run run.state.log old → PerformsIf W J heard run step new done
