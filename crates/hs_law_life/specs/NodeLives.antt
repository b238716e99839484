-- The life of a node: the acts of its agent since the node was made. What they come to in the agent's model, which chunks they took of each
-- client, and what holds of these.
use Rattle.std.specs.Prelude.{◌≡◌, ℕ, ◌==◌, true, false, List, [], ◌∷◌, ◌++◌, map, filter_map, slice_get, Option, Some, None, if◌then◌else◌, refl}
use Rattle.std.specs.Option.{option_map_or}
use Rattle.hs_base.specs.declared.ids.TraceId.{TraceId}
use Rattle.hs_base.specs.declared.told.Group.{Group}
use Rattle.hs_base.specs.Samples.{one_rule, t}
use Rattle.hs_records.specs.Plain.{PlainSettings}
use Rattle.hs_words.specs.Buffers.{Buffer}
use Rattle.hs_words.specs.Pages.{Sheet}
use Rattle.hs_ring.specs.Parts.{Leased}
use Rattle.hs_link.specs.Contents.{Incoming}
use Rattle.hs_live.specs.Keys.{Key}
use Rattle.hs_law_agent.specs.Standings.{ChunkStanding, Indexed, Pinned, Reported, Evicted, Abandoned, Taken, same_group, trace_of, is_of_trace, is_evicted, stands}
use Rattle.hs_law_agent.specs.State.{AgentState, is_claimed}
use Rattle.hs_law_agent.specs.Stepping.{Took, Gave}
use Rattle.hs_law_agent.specs.Stepping as steps
use Rattle.hs_law_agent.specs.Laws.{WasOver, claiming_group, count_of, given_places, sheets_of}
use Rattle.hs_law_agent.specs.Lives.{is_settled, IsGood}
use Rattle.hs_law_agent.specs.Lives as model
use Rattle.hs_law_agent.specs.Samples.{settings_with, chunk, trigger, group}
use Rattle.hs_agent.specs.Points.{sheet_in}
use Rattle.hs_agent.specs.Runs.{AgentRun, bare_run, state_of}
use Rattle.hs_intake.specs.Intakes.{PlainIntake, IntakeAct, TakesChunk, TakesCrumb, TakesTrigger, TakesAsk, Turns, LetsGo, Forgets, after_act, life, has_left, acts_in, Stands}

-- ---- acts in the agent's model

-- the run of a node's agent after these acts, and its state
abbrev pub run_by : PlainSettings → ℕ → List IntakeAct → AgentRun Leased
run_by settings node acts = life (bare_run settings node) acts

abbrev pub state_by : PlainSettings → ℕ → List IntakeAct → AgentState
state_by settings node acts = state_of (run_by settings node acts)

-- A group that an act forgets has no pinned chunk.
abbrev pub IsSettledAt : AgentRun Leased → IntakeAct → Type 0
IsSettledAt run (TakesChunk client buffer) = Unit {0}
IsSettledAt run (TakesCrumb client crumb) = Unit {0}
IsSettledAt run (TakesTrigger client trigger) = Unit {0}
IsSettledAt run (TakesAsk ask) = Unit {0}
IsSettledAt run Turns = Unit {0}
IsSettledAt run (LetsGo answer back) = Unit {0}
IsSettledAt run (Forgets group) = is_settled group (state_of run) ≡ true

abbrev pub AreSettled : AgentRun Leased → List IntakeAct → Type 0
AreSettled run [] = Unit {0}
AreSettled run (act ∷ acts) = IsSettledAt run act × AreSettled (after_act run act) acts

-- An act is one of the model, or none: a trigger for which no number is left is not seen.
abbrev pub model_of : AgentRun Leased → IntakeAct → List model.Act
model_of run (TakesChunk client buffer) = model.Does (Took (steps.Chunk client (sheet_in buffer))) ∷ []
model_of run (TakesCrumb client crumb) = model.Does (Took (steps.Crumbed client crumb)) ∷ []
model_of run (TakesTrigger client trigger) = if has_left run then model.Does (Took (steps.Triggered client trigger)) ∷ [] else []
model_of run (TakesAsk ask) = model.Does (Took (steps.Asked ask)) ∷ []
model_of run Turns = model.Does (Took steps.Turn) ∷ []
model_of run (LetsGo answer back) = model.Does (Gave answer) ∷ []
model_of run (Forgets group) = model.Forgets group ∷ []

abbrev pub model_in : AgentRun Leased → List IntakeAct → List model.Act
model_in run [] = []
model_in run (act ∷ acts) = model_of run act ++ model_in (after_act run act) acts

-- ---- the chunks that acts take

pub record Taking : Type 0 where
  pub client : ℕ
  pub buffer : Buffer Leased

abbrev pub taking_of : IntakeAct → Option Taking
taking_of (TakesChunk client buffer) = Some (record { client = client; buffer = buffer })
taking_of (TakesCrumb client crumb) = None
taking_of (TakesTrigger client trigger) = None
taking_of (TakesAsk ask) = None
taking_of Turns = None
taking_of (LetsGo answer back) = None
taking_of (Forgets group) = None

-- the chunks that acts take, in order
abbrev pub takings : List IntakeAct → List Taking
takings acts = filter_map taking_of acts

abbrev pub page_of : Taking → Sheet
page_of taking = sheet_in taking.buffer

-- those of one client
abbrev pub of_client : ℕ → Taking → Option (Buffer Leased)
of_client client taking = if taking.client == client then Some taking.buffer else None

abbrev pub chunks_of : ℕ → List IntakeAct → List (Buffer Leased)
chunks_of client acts = filter_map (of_client client) (takings acts)

-- the chunk of a client that waits at the front, if one does
abbrev pub front_of : ℕ → PlainIntake → List (Buffer Leased)
front_of client d = chunks_of client (acts_in d.back)

-- what the end of a client's chunks received
abbrev pub received_of : ℕ → PlainIntake → List (Buffer Leased)
received_of client d = option_map_or (λ (r : Incoming (Buffer Leased) Key). r.received) (slice_get d.port.chunks client) []

-- ---- a life

-- These are the acts of the agent since the node was made: the node stands where they lead, each group was settled when it was forgotten, and of
-- each client the chunks that came are those that were taken, and then the one that waits at the front.
pub record HasLived (settings : PlainSettings) (node : ℕ) (acts : List IntakeAct) (d : PlainIntake) : Type 0 where
  pub stands : Stands (run_by settings node acts) d
  pub settled : AreSettled (bare_run settings node) acts
  pub took : (client : ℕ) → received_of client d ≡ chunks_of client acts ++ front_of client d

-- ---- what holds in a life

-- A chunk stands so often among the pinned, and so often among those in the hand or given back.
pub record IsCounted (state : AgentState) (place pinned gone : ℕ) : Type 0 where
  pub pinned_is : count_of state.pinned place ≡ pinned
  pub gone_is : count_of (given_places state ++ state.hand) place ≡ gone

-- A chunk is in one place: indexed, while nobody claims its trace; pinned, for the group that claims its trace; or gone, in the hand or given back:
-- as reported, as evicted where a count was over its limit, or as abandoned.
abbrev pub HasFate : PlainSettings → AgentState → ℕ → TraceId → ChunkStanding → Type 0
HasFate settings state place trace Indexed = (is_claimed state.claims trace ≡ false) × IsCounted state place 0 0
HasFate settings state place trace (Pinned group) = (claiming_group state.claims trace ≡ Some group) × IsCounted state place 1 0
HasFate settings state place trace (Reported group) = (count_of state.reported place ≡ 1) × IsCounted state place 0 1
HasFate settings state place trace (Evicted chunks traces) = WasOver settings (Evicted chunks traces) × IsCounted state place 0 1
HasFate settings state place trace (Abandoned group) = IsCounted state place 0 1

-- The chunk at a place is this one, and has its fate.
pub record IsFound (settings : PlainSettings) (state : AgentState) (place : ℕ) (taking : Taking) : Type 0 where
  pub chunk : Taken
  pub at : slice_get state.taken place ≡ Some chunk
  pub page : chunk.sheet ≡ page_of taking
  pub fate : HasFate settings state place (trace_of chunk) chunk.standing

-- What the agent did is a life of its model, which leads to a good state. The model's chunks are those that were taken, in order, and each has its
-- fate.
pub record IsWell (settings : PlainSettings) (node : ℕ) (acts : List IntakeAct) : Type 0 where
  pub model_is : state_by settings node acts ≡ model.life settings node (model_in (bare_run settings node) acts)
  pub good : IsGood settings (state_by settings node acts)
  pub pages : sheets_of (state_by settings node acts).taken ≡ map page_of (takings acts)
  pub each : (place : ℕ) (taking : Taking) → slice_get (takings acts) place ≡ Some taking → IsFound settings (state_by settings node acts) place taking

-- An act does not forget the group.
abbrev pub Keeps : Group → IntakeAct → Type 0
Keeps group (TakesChunk client buffer) = Unit {0}
Keeps group (TakesCrumb client crumb) = Unit {0}
Keeps group (TakesTrigger client trigger) = Unit {0}
Keeps group (TakesAsk ask) = Unit {0}
Keeps group Turns = Unit {0}
Keeps group (LetsGo answer back) = Unit {0}
Keeps group (Forgets other) = same_group other group ≡ false

-- From one state to a later one the claim of a trace stands, and no chunk of it is evicted.
pub record IsSpared (trace : TraceId) (group : Group) (old new : AgentState) : Type 0 where
  pub claim : claiming_group new.claims trace ≡ Some group
  pub unevicted : (place : ℕ) → is_of_trace old.taken trace place ≡ true → stands is_evicted new.taken place ≡ stands is_evicted old.taken place

-- ---- examples

-- of two clients' chunks, each has its own
abbrev three : Buffer Leased → List IntakeAct
three buffer = TakesChunk 1 buffer ∷ Turns ∷ TakesChunk 2 buffer ∷ TakesChunk 1 buffer ∷ []

each_its_own : (buffer : Buffer Leased) → (chunks_of 1 (three buffer) ≡ buffer ∷ buffer ∷ []) × (chunks_of 2 (three buffer) ≡ buffer ∷ []) × (chunks_of 0 (three buffer) ≡ [])
each_its_own buffer = (refl, refl, refl)

-- a group is forgotten in a life only where it is settled
settled_first : (run : AgentRun Leased) (group : Group) → AreSettled run (Turns ∷ Forgets group ∷ []) → is_settled group (state_of (after_act run Turns)) ≡ true
settled_first run group settled = settled.1.0

-- a chunk of a trace that nobody claims is indexed, and one of a claimed trace is pinned for the group
abbrev few : PlainSettings
few = settings_with 4 8 4 one_rule

each_in_its_place : HasFate few (model.life few 0 (model.Does (chunk 1 0) ∷ [])) 0 (t 1) Indexed
    × HasFate few (model.life few 0 (model.Does (trigger 1 1 1 []) ∷ model.Does (chunk 1 0) ∷ [])) 0 (t 1) (Pinned (group 0 0 1 1))
each_in_its_place = ((refl, record { pinned_is = refl; gone_is = refl }), (refl, record { pinned_is = refl; gone_is = refl }))
