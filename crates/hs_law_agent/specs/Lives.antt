-- A life of an agent, which no workload bounds: events, and between them groups that the agent forgets. A group may be forgotten
-- while no chunk is pinned for it. Its claims go then, with the crumbs of the traces that they claimed, and with the mark that
-- it was abandoned; its traces are from then on as if nobody had claimed them.
use Rattle.std.specs.Prelude.{◌≡◌, ◌<◌, ◌≤◌, ℕ, Bool, true, false, ◌&&◌, not, List, [], ◌∷◌, ◌++◌, filter, fold, Some, if◌then◌else◌, refl}
use Rattle.std.specs.List.{AllByRecursion, list_any}
use Rattle.hs_base.specs.declared.ids.TraceId.{TraceId}
use Rattle.hs_base.specs.declared.told.Crumb.{Crumb}
use Rattle.hs_base.specs.declared.told.Group.{Group}
use Rattle.hs_base.specs.Ids.{same_trace}
use Rattle.hs_base.specs.Samples.{one_rule, t}
use Rattle.hs_records.specs.Plain.{PlainSettings}
use Rattle.hs_law_agent.specs.Standings.{ChunkStanding, Indexed, Pinned, Reported, Evicted, Abandoned, Taken, same_group, trace_of, is_evicted, is_indexed, stands, is_of_trace}
use Rattle.hs_law_agent.specs.State.{AgentState, ClaimedTrace, start, is_claimed}
use Rattle.hs_law_agent.specs.Abandoning.{pinned_groups}
use Rattle.hs_law_agent.specs.Laws.{PlacesMatch, IsInOnePlace, IsClaimedOrTouched, IsWithin, IndexedAreTouched, AllWereOver, AreRising, count_of, claiming_group}
use Rattle.hs_law_agent.specs.Stepping.{AgentEvent, after_event, after_from}
use Rattle.hs_law_agent.specs.Samples.{settings_with, chunk, trigger, group, turned, standings}

-- ---- forgetting

abbrev pub is_of_group : Group → ClaimedTrace → Bool
is_of_group group claim = same_group group claim.group

abbrev pub claims_without : Group → List ClaimedTrace → List ClaimedTrace
claims_without group claims = filter (λ claim. not (is_of_group group claim)) claims

-- whether the group claimed the trace
abbrev pub has_claimed : Group → List ClaimedTrace → TraceId → Bool
has_claimed group claims trace = list_any (λ claim. same_trace trace claim.trace && is_of_group group claim) claims

abbrev pub forget_group : Group → AgentState → AgentState
forget_group group state =
    record state {
      claims = claims_without group state.claims;
      crumbs = filter (λ (crumb : Crumb). not (has_claimed group state.claims crumb.trace)) state.crumbs;
      abandoned = filter (λ other. not (same_group group other)) state.abandoned;
    }

-- whether no chunk is pinned for the group
abbrev pub is_settled : Group → AgentState → Bool
is_settled group state = not (list_any (same_group group) (pinned_groups state))

abbrev pub forget : Group → AgentState → AgentState
forget group state = if is_settled group state then forget_group group state else state

-- ---- lives

pub data Act : Type 0 where
  Does : (event : AgentEvent) → Act
  Forgets : (group : Group) → Act

abbrev pub after_act : PlainSettings → ℕ → AgentState → Act → AgentState
after_act settings node state (Does event) = after_event settings node state event
after_act settings node state (Forgets group) = forget group state

abbrev pub life_from : PlainSettings → ℕ → AgentState → List Act → AgentState
life_from settings node state acts = fold (after_act settings node) state acts

-- the state of a node's agent after these acts
abbrev pub life : PlainSettings → ℕ → List Act → AgentState
life settings node acts = life_from settings node (start settings) acts

-- ---- what holds in a life

-- An indexed chunk is of a trace that nobody claims, and a pinned one of a trace that its group claims.
abbrev pub HeldByClaim : List ClaimedTrace → TraceId → ChunkStanding → Type 0
HeldByClaim claims trace Indexed = is_claimed claims trace ≡ false
HeldByClaim claims trace (Pinned group) = claiming_group claims trace ≡ Some group
HeldByClaim claims trace (Reported group) = Unit {0}
HeldByClaim claims trace (Evicted chunks traces) = Unit {0}
HeldByClaim claims trace (Abandoned group) = Unit {0}

abbrev pub AllHeldByClaim : List ClaimedTrace → List Taken → Type 0
AllHeldByClaim claims taken = AllByRecursion (λ (chunk : Taken). HeldByClaim claims (trace_of chunk) chunk.standing) taken

-- a state to which a life may lead
pub record IsGood (settings : PlainSettings) (state : AgentState) : Type 0 where
  pub places : PlacesMatch state
  pub partition : (place : ℕ) → IsInOnePlace state place
  pub once : (trace : TraceId) → IsClaimedOrTouched state trace
  pub held : AllHeldByClaim state.claims state.taken
  pub touched : IndexedAreTouched state
  pub within : IsWithin settings state
  pub over : AllWereOver settings state.taken
  -- of one trace an earlier chunk is never reported behind a later one, and what is indexed came behind what was reported
  pub rising : (trace : TraceId) → AreRising (filter (is_of_trace state.taken trace) (state.reported ++ state.pinned))
  pub ahead : (trace : TraceId) (p q : ℕ) → 1 ≤ count_of state.reported p → is_of_trace state.taken trace p ≡ true → stands is_indexed state.taken q ≡ true → is_of_trace state.taken trace q ≡ true → p < q

-- A life begins well, and every act leads from a good state to a good state.
pub record GoesOnWell (settings : PlainSettings) (node : ℕ) : Type 0 where
  pub begins : IsGood settings (start settings)
  pub goes_on : (state : AgentState) (act : Act) → IsGood settings state → IsGood settings (after_act settings node state act)

abbrev pub LivesGoOnWell : Type 0
LivesGoOnWell = (settings : PlainSettings) (node : ℕ) → GoesOnWell settings node

-- No event evicts a chunk of a trace that is claimed, in a good state. Forgetting moves no chunk at all.
pub record EvictsNoClaimed (settings : PlainSettings) (node : ℕ) (state : AgentState) : Type 0 where
  pub events : (event : AgentEvent) (place : ℕ) (trace : TraceId) → is_of_trace state.taken trace place ≡ true → is_claimed state.claims trace ≡ true
      → stands is_evicted (after_event settings node state event).taken place ≡ stands is_evicted state.taken place
  pub forgets : (group : Group) → (forget group state).taken ≡ state.taken

abbrev pub NothingClaimedGoes : Type 0
NothingClaimedGoes = (settings : PlainSettings) (node : ℕ) (state : AgentState) → IsGood settings state → EvictsNoClaimed settings node state

-- these acts do not forget the group
abbrev pub Keeps : Group → Act → Type 0
Keeps group (Does event) = Unit {0}
Keeps group (Forgets other) = same_group other group ≡ false

-- A claim stands until its group is forgotten.
abbrev pub ClaimsStand : Type 0
ClaimsStand =
    (settings : PlainSettings) (node : ℕ) (state : AgentState) (acts : List Act) (trace : TraceId) (group : Group) → AllByRecursion (Keeps group) acts → claiming_group state.claims trace ≡ Some group
    → claiming_group (life_from settings node state acts).claims trace ≡ Some group

-- Events go on from any state where earlier ones stopped.
abbrev pub EventsLeadOn : Type 0
EventsLeadOn =
    (settings : PlainSettings) (node : ℕ) (state : AgentState) (events later : List AgentEvent)
    → after_from settings node state (events ++ later) ≡ after_from settings node (after_from settings node state events) later

-- Any events leave every list with its chunks, from any state whose lists have theirs.
pub record ListsLast (settings : PlainSettings) (node : ℕ) (state : AgentState) : Type 0 where
  pub events : (events : List AgentEvent) → PlacesMatch (after_from settings node state events)
  pub forgets : (group : Group) → PlacesMatch (forget group state)
  pub partition : (place : ℕ) → IsInOnePlace state place

abbrev pub ListsGoOn : Type 0
ListsGoOn = (settings : PlainSettings) (node : ℕ) (state : AgentState) → PlacesMatch state → ListsLast settings node state

-- ---- examples

abbrev lived : List Act → AgentState
lived acts = life (settings_with 4 8 4 one_rule) 0 acts

abbrev reported : List Act
reported = Does (trigger 1 1 1 []) ∷ Does (chunk 1 0) ∷ Does turned ∷ []

-- a chunk that comes for a forgotten trace is indexed
forgotten_then : (standings (life_from (settings_with 4 8 4 one_rule) 0 (lived reported) (Forgets (group 0 0 1 1) ∷ Does (chunk 1 1) ∷ [])) ≡ Reported (group 0 0 1 1) ∷ Indexed ∷ [])
    × (standings (life_from (settings_with 4 8 4 one_rule) 0 (lived reported) (Does (chunk 1 1) ∷ [])) ≡ Reported (group 0 0 1 1) ∷ Pinned (group 0 0 1 1) ∷ [])
forgotten_then = (refl, refl)

-- a group for which a chunk is pinned is not forgotten
pinned_stays : is_claimed (lived (Does (trigger 1 1 1 []) ∷ Does (chunk 1 0) ∷ Forgets (group 0 0 1 1) ∷ [])).claims (t 1) ≡ true
pinned_stays = refl
