-- What holds of an agent after any events, whatever they are. Each chunk stands in one way, and the agent's lists have it
-- once where they should: among the pinned, the reported, and those whose buffers were given back or wait for it. A trace
-- is claimed at most once, and is not indexed then. Nothing stays beyond the limits, and nothing goes without need.
use Rattle.std.specs.Prelude.{◌≡◌, ◌⊎◌, ℕ, ◌+◌, ◌<◌, ◌≤◌, Bool, true, false, ◌==◌, List, [], ◌∷◌, ◌++◌, length, map, Option, Some, None, if◌then◌else◌, filter, filter_map, slice_get}
use Rattle.std.specs.List.{AllByRecursion, list_any}
use Rattle.std.specs.Option.{option_map, option_to_list}
use Rattle.hs_base.specs.declared.ids.TraceId.{TraceId}
use Rattle.hs_base.specs.declared.told.Group.{Group}
use Rattle.hs_base.specs.Ids.{same_trace}
use Rattle.hs_records.specs.declared.journal.Step.{Step}
use Rattle.hs_records.specs.Plain.{PlainSettings}
use Rattle.hs_sched.specs.declared.share.Share.{Share}
use Rattle.hs_sched.specs.Visits.{budget_of}
use Rattle.hs_words.specs.Pages.{Sheet}
use Rattle.hs_law_agent.specs.Standings.{ChunkStanding, Indexed, Pinned, Reported, Evicted, Abandoned, Taken, same_group, trace_of, indexed_count, is_indexed, is_pinned, is_reported, is_evicted, is_let_go, stands, is_of_trace}
use Rattle.hs_law_agent.specs.State.{AgentState, ClaimedTrace, GivenPlace, claim_of, is_claimed}
use Rattle.hs_law_agent.specs.Evicting.{is_over, evict_trace, evict}
use Rattle.hs_law_agent.specs.Abandoning.{pinned_groups, count_of_id, is_no_greater, next_to_go, abandon_group, abandon}
use Rattle.hs_law_agent.specs.Turning.{is_pinned_under, order_of, used_at, costs_of, shares_after, visit}
use Rattle.hs_law_agent.specs.Stepping.{Input, Chunk, Crumbed, Triggered, Asked, Turn, Answered, AgentEvent, Took, Gave, step_of, step_of_answer, admits, group_of, told_by, after_step, after_gave, after_event, after_from, after}

-- ---- places

-- how often a place stands among these
abbrev pub count_of : List ℕ → ℕ → ℕ
count_of [] place = 0
count_of (p ∷ places) place = (if p == place then 1 else 0) + count_of places place

-- These places are those of the chunks that stand so, each once.
abbrev pub ListsEach : (ChunkStanding → Bool) → List Taken → List ℕ → Type 0
ListsEach test taken places = (place : ℕ) → count_of places place ≡ (if stands test taken place then 1 else 0)

-- the places of the buffers that were given back
abbrev pub given_places : AgentState → List ℕ
given_places state = map (λ (g : GivenPlace). g.place) state.given

-- each list has its chunks: the pinned, the reported, and those that were let go
pub record ArePlaced (taken : List Taken) (pinned reported gone : List ℕ) : Type 0 where
  pub pinned_each : ListsEach is_pinned taken pinned
  pub reported_each : ListsEach is_reported taken reported
  pub gone_each : ListsEach is_let_go taken gone

abbrev pub PlacesMatch : AgentState → Type 0
PlacesMatch state = ArePlaced state.taken state.pinned state.reported (given_places state ++ state.hand)

-- The evicted, abandoned and reported chunks are in the hand, each once, until they are given back.
abbrev pub ListsHaveTheirChunks : Type 0
ListsHaveTheirChunks = (settings : PlainSettings) (node : ℕ) (events : List AgentEvent) → PlacesMatch (after settings node events)

-- Each chunk is either indexed, or once among the pinned, or once among those in the hand or given back.
abbrev pub IsInOnePlace : AgentState → ℕ → Type 0
IsInOnePlace state place =
    (if stands is_indexed state.taken place then 1 else 0) + count_of state.pinned place + count_of (given_places state) place + count_of state.hand place
    ≡ (if stands (λ _. true) state.taken place then 1 else 0)

abbrev pub StandingsPartition : Type 0
StandingsPartition = (settings : PlainSettings) (node : ℕ) (events : List AgentEvent) (place : ℕ) → IsInOnePlace (after settings node events) place

-- A chunk that is indexed or pinned is not in the hand, and its buffer was not given back.
pub record IsHeld (state : AgentState) (place : ℕ) : Type 0 where
  pub hand : count_of state.hand place ≡ 0
  pub given : count_of (given_places state) place ≡ 0

abbrev pub HeldChunksAreInNoHand : Type 0
HeldChunksAreInNoHand =
    (settings : PlainSettings) (node : ℕ) (events : List AgentEvent) (place : ℕ)
    → (stands is_indexed (after settings node events).taken place ≡ true) ⊎ (stands is_pinned (after settings node events).taken place ≡ true)
    → IsHeld (after settings node events) place

-- ---- claims

-- how often a trace stands among these
abbrev pub count_traces : List TraceId → TraceId → ℕ
count_traces [] trace = 0
count_traces (t ∷ traces) trace = (if same_trace trace t then 1 else 0) + count_traces traces trace

abbrev pub claimed_traces : AgentState → List TraceId
claimed_traces state = map (λ (claim : ClaimedTrace). claim.trace) state.claims

-- A trace is claimed once, or indexed once, or neither. So no trace has two claims, and a claimed trace is not indexed.
abbrev pub IsClaimedOrTouched : AgentState → TraceId → Type 0
IsClaimedOrTouched state trace = count_traces (claimed_traces state) trace + count_traces state.touched trace ≤ 1

abbrev pub TracesAreClaimedOnce : Type 0
TracesAreClaimedOnce = (settings : PlainSettings) (node : ℕ) (events : List AgentEvent) (trace : TraceId) → IsClaimedOrTouched (after settings node events) trace

-- Later events only add claims behind those that were made.
abbrev pub ClaimsHoldForGood : Type 0
ClaimsHoldForGood =
    (settings : PlainSettings) (node : ℕ) (events later : List AgentEvent)
    → (more : List ClaimedTrace) × ((after_from settings node (after settings node events) later).claims ≡ (after settings node events).claims ++ more)

-- the group of the claim of a trace, where it is claimed
abbrev pub claiming_group : List ClaimedTrace → TraceId → Option Group
claiming_group claims trace = option_map (λ (claim : ClaimedTrace). claim.group) (claim_of claims trace)

-- A chunk is indexed only where nobody claimed its trace, and pinned, reported or abandoned only for the group that did. So
-- all chunks of a trace that a group took over stand for that group.
abbrev pub StandsByClaim : List ClaimedTrace → TraceId → ChunkStanding → Type 0
StandsByClaim claims trace Indexed = is_claimed claims trace ≡ false
StandsByClaim claims trace (Pinned group) = claiming_group claims trace ≡ Some group
StandsByClaim claims trace (Reported group) = claiming_group claims trace ≡ Some group
StandsByClaim claims trace (Evicted chunks traces) = Unit {0}
StandsByClaim claims trace (Abandoned group) = claiming_group claims trace ≡ Some group

abbrev pub AllStandByClaim : List ClaimedTrace → List Taken → Type 0
AllStandByClaim claims taken = AllByRecursion (λ (chunk : Taken). StandsByClaim claims (trace_of chunk) chunk.standing) taken

abbrev pub ChunksStandByTheirClaim : Type 0
ChunksStandByTheirClaim =
    (settings : PlainSettings) (node : ℕ) (events : List AgentEvent) → AllStandByClaim (after settings node events).claims (after settings node events).taken

-- An event evicts no chunk of a trace that was claimed before it.
abbrev pub NothingClaimedIsEvicted : Type 0
NothingClaimedIsEvicted =
    (settings : PlainSettings) (node : ℕ) (events : List AgentEvent) (event : AgentEvent) (place : ℕ) (trace : TraceId)
    → is_of_trace (after settings node events).taken trace place ≡ true → is_claimed (after settings node events).claims trace ≡ true
    → stands is_evicted (after_event settings node (after settings node events) event).taken place ≡ stands is_evicted (after settings node events).taken place

-- ---- what goes

-- The id of one group has more pinned chunks than that of the other, or as many and is no greater.
abbrev pub GoesBefore : List Group → Group → Group → Type 0
GoesBefore groups group other =
    (count_of_id groups other.trigger.0 < count_of_id groups group.trigger.0) ⊎ ((count_of_id groups other.trigger.0 ≡ count_of_id groups group.trigger.0) × (group.trigger.0 ≤ other.trigger.0))

-- The group that the limit on pins takes next: some chunk is pinned for it, no id has more pinned chunks than its id (an
-- equal one stands behind), and of its id's groups with pinned chunks none comes before it from below.
pub record IsNextToGo (groups : List Group) (group : Group) : Type 0 where
  pub among : list_any (same_group group) groups ≡ true
  pub fullest : AllByRecursion (λ (other : Group). GoesBefore groups group other) groups
  pub least : AllByRecursion (λ (other : Group). group.trigger.0 ≡ other.trigger.0 → is_no_greater group other ≡ true) groups

-- Where chunks are pinned for some groups, one of them is next to go, and it is such a one.
abbrev pub MatchNextToGo : List Group → Option Group → Type 0
MatchNextToGo groups None = groups ≡ []
MatchNextToGo groups (Some group) = IsNextToGo groups group

abbrev pub TheLeastGoes : Type 0
TheLeastGoes = (groups : List Group) → MatchNextToGo groups (next_to_go groups)

-- No more is indexed and no more is pinned than may be.
pub record IsWithin (settings : PlainSettings) (state : AgentState) : Type 0 where
  pub chunks : indexed_count state.taken ≤ settings.threshold
  pub traces : length state.touched ≤ settings.traces
  pub pins : length state.pinned ≤ settings.pins

abbrev pub LimitsHold : Type 0
LimitsHold = (settings : PlainSettings) (node : ℕ) (events : List AgentEvent) → IsWithin settings (after settings node events)

-- a chunk that was evicted was so where one of its counts was over its limit
abbrev pub WasOver : PlainSettings → ChunkStanding → Type 0
WasOver settings Indexed = Unit {0}
WasOver settings (Pinned group) = Unit {0}
WasOver settings (Reported group) = Unit {0}
WasOver settings (Evicted chunks traces) = (settings.threshold < chunks) ⊎ (settings.traces < traces)
WasOver settings (Abandoned group) = Unit {0}

abbrev pub AllWereOver : PlainSettings → List Taken → Type 0
AllWereOver settings taken = AllByRecursion (λ (chunk : Taken). WasOver settings chunk.standing) taken

-- Nothing was evicted at or below both limits.
abbrev pub EvictedWereOver : Type 0
EvictedWereOver = (settings : PlainSettings) (node : ℕ) (events : List AgentEvent) → AllWereOver settings (after settings node events).taken

-- ---- the order of reports

-- each place is below those behind it
abbrev pub AreRising : List ℕ → Type 0
AreRising [] = Unit {0}
AreRising (place ∷ places) = AllByRecursion (λ (later : ℕ). place < later) places × AreRising places

-- the reported places of a trace, in the order of the reports
abbrev pub reported_of : AgentState → TraceId → List ℕ
reported_of state trace = filter (is_of_trace state.taken trace) state.reported

-- Of one trace, an earlier chunk is never reported behind a later one.
abbrev pub ReportedInOrder : Type 0
ReportedInOrder = (settings : PlainSettings) (node : ℕ) (events : List AgentEvent) (trace : TraceId) → AreRising (reported_of (after settings node events) trace)

-- ---- no more goes than needed

-- the traces of indexed chunks are touched
abbrev pub IndexedAreTouched : AgentState → Type 0
IndexedAreTouched state = AllByRecursion (λ (chunk : Taken). is_indexed chunk.standing ≡ true → 1 ≤ count_traces state.touched (trace_of chunk)) state.taken

-- One state comes from another by evictions: while too much is indexed, and no longer, the first of the touched traces goes.
pub data Evicts (settings : PlainSettings) : AgentState → AgentState → Type 0 where
  Stays : (state : AgentState) → is_over settings state ≡ false → Evicts settings state state
  Goes :
      (state later : AgentState) (trace : TraceId) (traces : List TraceId) → is_over settings state ≡ true → state.touched ≡ trace ∷ traces
      → Evicts settings (evict_trace trace traces state) later → Evicts settings state later

abbrev pub EvictsWhileOver : Type 0
EvictsWhileOver = (settings : PlainSettings) (state : AgentState) → IndexedAreTouched state → Evicts settings state (evict settings state)

-- One state comes from another by abandonment: while too much is pinned, and no longer, the group that is next to go goes.
pub data Abandons (settings : PlainSettings) : AgentState → AgentState → Type 0 where
  Remains : (state : AgentState) → length state.pinned ≤ settings.pins → Abandons settings state state
  Leaves :
      (state later : AgentState) (group : Group) → settings.pins < length state.pinned → IsNextToGo (pinned_groups state) group
      → Abandons settings (abandon_group group state) later → Abandons settings state later

abbrev pub AbandonsWhileOver : Type 0
AbandonsWhileOver = (settings : PlainSettings) (state : AgentState) → PlacesMatch state → Abandons settings state (abandon settings state)

-- After any events both hold of the state to which the next ones apply.
abbrev pub IndexedStayTouched : Type 0
IndexedStayTouched = (settings : PlainSettings) (node : ℕ) (events : List AgentEvent) → IndexedAreTouched (after settings node events)

-- Events go on where earlier ones stopped.
abbrev pub EventsGoOn : Type 0
EventsGoOn = (settings : PlainSettings) (node : ℕ) (events later : List AgentEvent) → after settings node (events ++ later) ≡ after_from settings node (after settings node events) later

-- ---- the order of a client's pages

-- each page is numbered below those of its client that come behind it
abbrev pub PagesRise : List Sheet → Type 0
PagesRise [] = Unit {0}
PagesRise (sheet ∷ sheets) = AllByRecursion (λ (later : Sheet). later.header.client ≡ sheet.header.client → sheet.header.page < later.header.page) sheets × PagesRise sheets

-- the pages that were reported of a trace, in the order of the reports
abbrev pub sheets_at : List Taken → List ℕ → List Sheet
sheets_at taken places = filter_map (λ place. option_map (λ (chunk : Taken). chunk.sheet) (slice_get taken place)) places

abbrev pub sheets_of : List Taken → List Sheet
sheets_of taken = map (λ (chunk : Taken). chunk.sheet) taken

-- Where each client's pages come in rising order, those of one trace are reported in rising order too, client by client.
abbrev pub ClientsPagesRise : Type 0
ClientsPagesRise =
    (settings : PlainSettings) (node : ℕ) (events : List AgentEvent) (trace : TraceId) → PagesRise (sheets_of (after settings node events).taken)
    → PagesRise (sheets_at (after settings node events).taken (reported_of (after settings node events) trace))

-- ---- the ids in a turn

-- A visit of one trigger id leaves what waits for another, with its costs.
pub record IsLeftAlone (settings : PlainSettings) (state : AgentState) (share : Share) (id : ℕ) : Type 0 where
  pub order : order_of (visit settings state share) id ≡ order_of state id
  pub costs : costs_of (visit settings state share) id ≡ costs_of state id

abbrev pub VisitsAreApart : Type 0
VisitsAreApart = (settings : PlainSettings) (state : AgentState) (share : Share) (id : ℕ) → (share.trigger.0 ≡ id → ⊥) → IsLeftAlone settings state share id

-- ---- messages

-- An input adds its message to those that were said, or none; an offer's answer adds none.
pub record SaysWhatItTells (settings : PlainSettings) (node : ℕ) (state : AgentState) : Type 0 where
  pub inputs : (input : Input) → (after_step settings node state input).said ≡ state.said ++ option_to_list (told_by settings node state input)
  pub answers : (answer : Answered) → (after_gave state answer).said ≡ state.said

abbrev pub StepsSayWhatTheyTell : Type 0
StepsSayWhatTheyTell = (settings : PlainSettings) (node : ℕ) (state : AgentState) → SaysWhatItTells settings node state

-- ---- one event

-- the page of the chunk that an event takes
abbrev pub brought_by : AgentEvent → List Sheet
brought_by (Took (Chunk client sheet)) = sheet ∷ []
brought_by (Took (Crumbed client crumb)) = []
brought_by (Took (Triggered client trigger)) = []
brought_by (Took (Asked ask)) = []
brought_by (Took Turn) = []
brought_by (Gave answer) = []

-- the step as which an event is noted
abbrev pub noted_as : AgentEvent → Step
noted_as (Took input) = step_of input
noted_as (Gave answer) = step_of_answer answer

-- An event adds its step to the log, and behind the pages of the chunks that were taken the page that it brings. No input gives a
-- buffer back.
pub record AddsThis (settings : PlainSettings) (node : ℕ) (state : AgentState) : Type 0 where
  pub chunks : (event : AgentEvent) → sheets_of (after_event settings node state event).taken ≡ sheets_of state.taken ++ brought_by event
  pub given : (input : Input) → (after_step settings node state input).given ≡ state.given
  pub log : (event : AgentEvent) → (after_event settings node state event).log ≡ state.log ++ noted_as event ∷ []

abbrev pub EventsAddThis : Type 0
EventsAddThis = (settings : PlainSettings) (node : ℕ) (state : AgentState) → AddsThis settings node state

-- What an agent bears: the chunks that are indexed or pinned.
abbrev pub borne : AgentState → ℕ
borne state = indexed_count state.taken + length state.pinned

-- the group for which an input claims, if it does
abbrev pub claimed_by : PlainSettings → ℕ → AgentState → Input → Option Group
claimed_by settings node state (Chunk client sheet) = None
claimed_by settings node state (Crumbed client crumb) = None
claimed_by settings node state (Triggered client trigger) = if admits settings state.tried trigger then Some (group_of node state trigger).group else None
claimed_by settings node state (Asked ask) = Some ask.group
claimed_by settings node state Turn = None

-- how many triggers an input admits
abbrev pub admitted_by : PlainSettings → AgentState → Input → ℕ
admitted_by settings state (Chunk client sheet) = 0
admitted_by settings state (Crumbed client crumb) = 0
admitted_by settings state (Triggered client trigger) = if admits settings state.tried trigger then 1 else 0
admitted_by settings state (Asked ask) = 0
admitted_by settings state Turn = 0

-- the shares behind an input: a turn changes them
abbrev pub shares_by : PlainSettings → AgentState → Input → List Share
shares_by settings state (Chunk client sheet) = state.shares
shares_by settings state (Crumbed client crumb) = state.shares
shares_by settings state (Triggered client trigger) = state.shares
shares_by settings state (Asked ask) = state.shares
shares_by settings state Turn = shares_after settings state

-- the groups of these claims pass a test, and so does a group, if there is one
abbrev pub AllPass : (Group → Bool) → List ClaimedTrace → Type 0
AllPass test claims = AllByRecursion (λ (claim : ClaimedTrace). test claim.group ≡ true) claims

abbrev pub IsPassed : (Group → Bool) → Option Group → Type 0
IsPassed test None = Unit {0}
IsPassed test (Some group) = test group ≡ true

-- An input adds to what the agent bears the chunk that it brings, and nothing else; it claims for one group at most. An offer adds
-- nothing.
pub record AddsFew (settings : PlainSettings) (node : ℕ) (state : AgentState) : Type 0 where
  pub load : (input : Input) → borne (after_step settings node state input) ≤ borne state + length (brought_by (Took input))
  pub offered : (answer : Answered) → borne (after_gave state answer) ≤ borne state
  pub claims : (test : Group → Bool) (input : Input) → AllPass test state.claims → IsPassed test (claimed_by settings node state input) → AllPass test (after_step settings node state input).claims
  pub kept : (answer : Answered) → (after_gave state answer).claims ≡ state.claims
  pub admitted : (input : Input) → (after_step settings node state input).admitted ≡ state.admitted + admitted_by settings state input
  pub counted : (answer : Answered) → (after_gave state answer).admitted ≡ state.admitted
  pub shares : (input : Input) → (after_step settings node state input).shares ≡ shares_by settings state input
  pub shared : (answer : Answered) → (after_gave state answer).shares ≡ state.shares

abbrev pub EventsAddFew : Type 0
EventsAddFew = (settings : PlainSettings) (node : ℕ) (state : AgentState) → AddsFew settings node state

-- A chunk is pinned for a trigger id that has a share, and each share's budget pays for the page of any chunk.
pub record CanReport (settings : PlainSettings) (state : AgentState) : Type 0 where
  pub place : ℕ
  pub pin : ℕ
  pub pinned : slice_get state.pinned pin ≡ Some place
  pub share : Share
  pub at : ℕ
  pub shared : slice_get state.shares at ≡ Some share
  pub under : stands (is_pinned_under share.trigger.0) state.taken place ≡ true
  pub cheap : AllByRecursion (λ (share : Share). (place : ℕ) → used_at state.taken place ≤ budget_of settings.size share) state.shares

-- Then a turn reports a chunk.
abbrev pub TurnsReport : Type 0
TurnsReport = (settings : PlainSettings) (node : ℕ) (state : AgentState) → CanReport settings state → borne (after_step settings node state Turn) < borne state
