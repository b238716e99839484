-- One step of an agent: it takes a chunk, a crumb, a trigger or an ask, or makes a turn; or the first buffer of its hand was
-- offered to the pool. Each step is noted in the log.
use Rattle.std.specs.Prelude.{ℕ, ◌+◌, ◌==◌, Bool, false, List, [], ◌∷◌, ◌++◌, length, find, Option, Some, None, if◌then◌else◌, nat_le}
use Rattle.std.specs.Option.{option_map_or, option_and_then}
use Rattle.hs_base.specs.declared.ids.TraceId.{TraceId}
use Rattle.hs_base.specs.declared.limits.TheConstants.{TOKEN}
use Rattle.hs_base.specs.declared.ids.TriggerId.{TriggerId}
use Rattle.hs_base.specs.declared.settings.TriggerRule.{TriggerRule}
use Rattle.hs_base.specs.declared.told.Ask.{Ask}
use Rattle.hs_base.specs.declared.told.Crumb.{Crumb}
use Rattle.hs_base.specs.declared.told.Group.{Group}
use Rattle.hs_base.specs.declared.told.Told.{Told}
use Rattle.hs_base.specs.declared.told.Trigger.{Trigger}
use Rattle.hs_base.specs.declared.told.Why.TheVariants.{Fired, Answer}
use Rattle.hs_records.specs.declared.journal.Step.{Step}
use Rattle.hs_records.specs.declared.journal.Step.TheVariants as steps
use Rattle.hs_pins.specs.Buckets.{level_found}
use Rattle.hs_pins.specs.Remembered.{Tried, moments_of}
use Rattle.hs_records.specs.Plain.{PlainSettings}
use Rattle.hs_words.specs.Pages.{Sheet}
use Rattle.hs_law_agent.specs.Standings.{ChunkStanding, Indexed, Pinned, Abandoned}
use Rattle.hs_law_agent.specs.State.{AgentState, ClaimedTrace, start, claim_of, is_abandoned}
use Rattle.hs_law_agent.specs.Evicting.{touch, evict}
use Rattle.hs_law_agent.specs.Claiming.{claim_each}
use Rattle.hs_law_agent.specs.Abandoning.{abandon}
use Rattle.hs_law_agent.specs.Turning.{turn}
use Rattle.hs_law_agent.specs.Messages.{has_crumb, with_crumb, told_of, late_of, say}

-- what an agent takes, a client named by its number at the node
pub data Input : Type 0 where
  Chunk : (client : ℕ) (sheet : Sheet) → Input
  Crumbed : (client : ℕ) (crumb : Crumb) → Input
  Triggered : (client : ℕ) (trigger : Trigger) → Input
  Asked : (ask : Ask) → Input
  Turn : Input

-- how the pool answered an offer
pub data Answered : Type 0 where
  Given : (stamp : ℕ) → Answered
  Missed : (stamp : ℕ) → Answered
  Unread : Answered

-- ---- chunks and crumbs

-- the state with a chunk more, which stands so
abbrev pub with_taken : Sheet → ChunkStanding → AgentState → AgentState
with_taken sheet standing state = record state { taken = state.taken ++ record { sheet = sheet; standing = standing } ∷ [] }

-- the place of the next chunk
abbrev pub next_place : AgentState → ℕ
next_place state = length state.taken

abbrev pub touch_trace : TraceId → AgentState → AgentState
touch_trace trace state = record state { touched = touch trace state.touched }

-- a chunk more is indexed
abbrev pub with_indexed : Sheet → AgentState → AgentState
with_indexed sheet state = touch_trace sheet.header.trace (with_taken sheet Indexed state)

-- a chunk more is pinned for the group
abbrev pub with_pinned : Sheet → Group → AgentState → AgentState
with_pinned sheet group state = record (with_taken sheet (Pinned group) state) { pinned = state.pinned ++ next_place state ∷ [] }

-- a chunk more of a group that was abandoned
abbrev pub with_abandoned : Sheet → Group → AgentState → AgentState
with_abandoned sheet group state = record (with_taken sheet (Abandoned group) state) { hand = state.hand ++ next_place state ∷ [] }

-- a chunk of a trace that the group claimed
abbrev pub pin_chunk : PlainSettings → Sheet → Group → AgentState → AgentState
pin_chunk settings sheet group state =
    if is_abandoned state.abandoned group then with_abandoned sheet group state else abandon settings (with_pinned sheet group state)

abbrev pub take_chunk : PlainSettings → Sheet → AgentState → AgentState
take_chunk settings sheet state =
    option_map_or (λ (claim : ClaimedTrace). pin_chunk settings sheet claim.group state) (claim_of state.claims sheet.header.trace) (evict settings (with_indexed sheet state))

abbrev pub remember : Crumb → AgentState → AgentState
remember crumb state = record state { crumbs = with_crumb state.crumbs crumb }

-- a crumb of a trace that nobody claimed
abbrev pub with_touched : Crumb → AgentState → AgentState
with_touched crumb state = touch_trace crumb.trace (remember crumb state)

-- a crumb of a claimed trace, to a node that its crumbs did not name before
abbrev pub tell_late : Crumb → ClaimedTrace → AgentState → AgentState
tell_late crumb claim state = say (late_of claim crumb) (remember crumb state)

abbrev pub late_crumb : Crumb → ClaimedTrace → AgentState → AgentState
late_crumb crumb claim state = if has_crumb state.crumbs crumb then state else tell_late crumb claim state

abbrev pub take_crumb : PlainSettings → Crumb → AgentState → AgentState
take_crumb settings crumb state =
    option_map_or (λ claim. late_crumb crumb claim state) (claim_of state.claims crumb.trace) (evict settings (with_touched crumb state))

-- ---- triggers and asks

-- the rule of a trigger id
abbrev pub rule_of : PlainSettings → TriggerId → Option TriggerRule
rule_of settings id = find (λ (rule : TriggerRule). rule.id.0 == id.0) settings.triggers

-- whether the bucket of the trigger's id admits it
abbrev pub admits : PlainSettings → List Tried → Trigger → Bool
admits settings tried trigger =
    option_map_or (λ (rule : TriggerRule). nat_le TOKEN (level_found rule.burst rule.rate (moments_of trigger.trigger tried) trigger.moment)) (rule_of settings trigger.trigger) false

-- the group of the next admitted trigger, with its laterals
abbrev pub group_of : ℕ → AgentState → Trigger → Ask
group_of node state trigger =
    record {
      group = record { id = record { node = node; number = state.admitted }; trigger = trigger.trigger; lead = trigger.lead };
      laterals = trigger.laterals;
    }

-- what a group claims is pinned, and too much of what is pinned is abandoned
abbrev pub claim_for : PlainSettings → Ask → AgentState → AgentState
claim_for settings ask state = abandon settings (claim_each ask state)

abbrev pub note_trigger : Trigger → AgentState → AgentState
note_trigger trigger state = record state { tried = record { trigger = trigger.trigger; moment = trigger.moment } ∷ state.tried }

-- one trigger more was admitted
abbrev pub count_admitted : AgentState → AgentState
count_admitted state = record state { admitted = state.admitted + 1 }

abbrev pub admit : PlainSettings → ℕ → Trigger → AgentState → AgentState
admit settings node trigger state =
    let ask = group_of node state trigger in
    say (told_of state.crumbs ask Fired) (claim_for settings ask (count_admitted state))

abbrev pub take_trigger : PlainSettings → ℕ → Trigger → AgentState → AgentState
take_trigger settings node trigger state =
    if admits settings state.tried trigger then admit settings node trigger (note_trigger trigger state) else note_trigger trigger state

abbrev pub take_ask : PlainSettings → Ask → AgentState → AgentState
take_ask settings ask state = say (told_of state.crumbs ask Answer) (claim_for settings ask state)

-- ---- steps

abbrev pub note : Step → AgentState → AgentState
note step state = record state { log = state.log ++ step ∷ [] }

-- the step of an input
abbrev pub step_of : Input → Step
step_of (Chunk client sheet) = steps.Chunk client
step_of (Crumbed client crumb) = steps.Crumb client
step_of (Triggered client trigger) = steps.Trigger client
step_of (Asked ask) = steps.Ask
step_of Turn = steps.Turn

-- what an input does, without its note
abbrev pub take_input : PlainSettings → ℕ → AgentState → Input → AgentState
take_input settings node state (Chunk client sheet) = take_chunk settings sheet state
take_input settings node state (Crumbed client crumb) = take_crumb settings crumb state
take_input settings node state (Triggered client trigger) = take_trigger settings node trigger state
take_input settings node state (Asked ask) = take_ask settings ask state
take_input settings node state Turn = turn settings state

-- what an input makes the agent tell the coordinator, if anything
abbrev pub told_by : PlainSettings → ℕ → AgentState → Input → Option Told
told_by settings node state (Chunk client sheet) = None
told_by settings node state (Crumbed client crumb) =
    option_and_then (λ claim. if has_crumb state.crumbs crumb then None else Some (late_of claim crumb)) (claim_of state.claims crumb.trace)
told_by settings node state (Triggered client trigger) = if admits settings state.tried trigger then Some (told_of state.crumbs (group_of node state trigger) Fired) else None
told_by settings node state (Asked ask) = Some (told_of state.crumbs ask Answer)
told_by settings node state Turn = None

-- the state of the node's agent after an input
abbrev pub after_step : PlainSettings → ℕ → AgentState → Input → AgentState
after_step settings node state input = note (step_of input) (take_input settings node state input)

abbrev pub step_of_answer : Answered → Step
step_of_answer (Given stamp) = steps.Given stamp
step_of_answer (Missed stamp) = steps.Missed stamp
step_of_answer Unread = steps.Unread

-- the first of the hand was given back
abbrev pub give_place : (stamp place : ℕ) → List ℕ → AgentState → AgentState
give_place stamp place hand state = record state { hand = hand; given = state.given ++ record { place = place; stamp = stamp } ∷ [] }

abbrev pub give_back : ℕ → List ℕ → AgentState → AgentState
give_back stamp [] state = state
give_back stamp (place ∷ hand) state = give_place stamp place hand state

-- a buffer that missed or was unread stays first in the hand
abbrev pub take_answer : AgentState → Answered → AgentState
take_answer state (Given stamp) = give_back stamp state.hand state
take_answer state (Missed stamp) = state
take_answer state Unread = state

-- the state after the first of the hand was offered, and answered so
abbrev pub after_gave : AgentState → Answered → AgentState
after_gave state answer = note (step_of_answer answer) (take_answer state answer)

-- ---- whole runs

-- an input, or an offer's answer
pub data AgentEvent : Type 0 where
  Took : (input : Input) → AgentEvent
  Gave : (answer : Answered) → AgentEvent

abbrev pub after_event : PlainSettings → ℕ → AgentState → AgentEvent → AgentState
after_event settings node state (Took input) = after_step settings node state input
after_event settings node state (Gave answer) = after_gave state answer

-- the state after these events, from this one on
abbrev pub after_from : PlainSettings → ℕ → AgentState → List AgentEvent → AgentState
after_from settings node state [] = state
after_from settings node state (event ∷ events) = after_from settings node (after_event settings node state event) events

-- the state of a node's agent after these events
abbrev pub after : PlainSettings → ℕ → List AgentEvent → AgentState
after settings node events = after_from settings node (start settings) events
