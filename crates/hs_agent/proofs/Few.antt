-- An event admits one trigger at most.
use Rattle.std.proofs.Common.{◌≡◌, ℕ, ◌+◌, ◌≤◌, Bool, true, false, cond, List, [], ◌∷◌, length, Option, Some, None, refl, ◌∙◌, arith}
use Rattle.hs_agent.proofs.Prelude.{option_map_or, Ask, Crumb, Group, Trigger, PlainSettings, Sheet, AgentState, ClaimedTrace, is_abandoned, evict, claim_each, traces_of, abandon, has_crumb, Chunk, Crumbed, Triggered, Asked, Turn, Answered, Given, Missed, Unread, AgentEvent, Took, Gave, take_input, take_answer, give_back, take_chunk, take_crumb, take_trigger, pin_chunk, late_crumb, tell_late, claim_for, admits, admit, note_trigger, count_admitted, group_of, with_indexed, with_touched, with_pinned, with_abandoned, after, after_from, after_event}
use Rattle.hs_law_agent.specs.State.{claim_of}
use Rattle.hs_law_agent.specs.Stepping.{Input}
use Rattle.hs_agent.specs.Calls.{FewAreAdmitted}
use Rattle.hs_agent.proofs.Unchanged.{evict-keeps, abandon-keeps, claims-keep, visits-keep}

abbrev count : AgentState → ℕ
count state = state.admitted

module _ (settings : PlainSettings) where
  evict-count : (state : AgentState) → count (evict settings state) ≡ count state
  evict-count state = evict-keeps count settings (λ trace later s. refl) state.touched state

  abandon-count : (state : AgentState) → count (abandon settings state) ≡ count state
  abandon-count state = abandon-keeps count settings (λ group s. refl) state.pinned state

  claim-count : (ask : Ask) (state : AgentState) → count (claim_for settings ask state) ≡ count state
  claim-count ask state = abandon-count (claim_each ask state) ∙ claims-keep count ask (λ trace s. refl) (traces_of ask) state

  chunk-count : (sheet : Sheet) (state : AgentState) → count (take_chunk settings sheet state) ≡ count state
  chunk-count sheet state = by (claim_of state.claims sheet.header.trace)
    where
      pinned : (group : Group) (gone : Bool) → count (cond gone (with_abandoned sheet group state) (abandon settings (with_pinned sheet group state))) ≡ count state
      pinned group true = refl
      pinned group false = abandon-count (with_pinned sheet group state)

      by : (claim : Option ClaimedTrace) → count (option_map_or (λ (c : ClaimedTrace). pin_chunk settings sheet c.group state) claim (evict settings (with_indexed sheet state))) ≡ count state
      by None = evict-count (with_indexed sheet state)
      by (Some claim) = pinned claim.group (is_abandoned state.abandoned claim.group)

  crumb-count : (crumb : Crumb) (state : AgentState) → count (take_crumb settings crumb state) ≡ count state
  crumb-count crumb state = by (claim_of state.claims crumb.trace)
    where
      late : (claim : ClaimedTrace) (known : Bool) → count (cond known state (tell_late crumb claim state)) ≡ count state
      late claim true = refl
      late claim false = refl

      by : (claim : Option ClaimedTrace) → count (option_map_or (λ c. late_crumb crumb c state) claim (evict settings (with_touched crumb state))) ≡ count state
      by None = evict-count (with_touched crumb state)
      by (Some claim) = late claim (has_crumb state.crumbs crumb)

  trigger-count : (node : ℕ) (trigger : Trigger) (state : AgentState) → count (take_trigger settings node trigger state) ≤ count state + 1
  trigger-count node trigger state = by (admits settings state.tried trigger)
    where
      by : (admitted : Bool) → count (cond admitted (admit settings node trigger (note_trigger trigger state)) (note_trigger trigger state)) ≤ count state + 1
      by true = let e = claim-count (group_of node (note_trigger trigger state) trigger) (count_admitted (note_trigger trigger state)) in omega (arith, e)
      by false = omega arith

  input-count : (node : ℕ) (state : AgentState) (input : Input) → count (take_input settings node state input) ≤ count state + 1
  input-count node state (Chunk client sheet) = let e = chunk-count sheet state in omega (arith, e)
  input-count node state (Crumbed client crumb) = let e = crumb-count crumb state in omega (arith, e)
  input-count node state (Triggered client trigger) = trigger-count node trigger state
  input-count node state (Asked ask) = let e = claim-count ask state in omega (arith, e)
  input-count node state Turn = let e = visits-keep count settings (λ places s. refl) state.shares state in omega (arith, e)

given-count : (stamp : ℕ) (hand : List ℕ) (state : AgentState) → count (give_back stamp hand state) ≡ count state
given-count stamp [] state = refl
given-count stamp (place ∷ hand) state = refl

answer-count : (state : AgentState) (answer : Answered) → count (take_answer state answer) ≡ count state
answer-count state (Given stamp) = given-count stamp state.hand state
answer-count state (Missed stamp) = refl
answer-count state Unread = refl

from-count : (settings : PlainSettings) (node : ℕ) (state : AgentState) (events : List AgentEvent) → count (after_from settings node state events) ≤ count state + length events
from-count settings node state [] = omega arith
from-count settings node state (Took input ∷ events) =
    let rest = from-count settings node (after_event settings node state (Took input)) events in
    let one = input-count settings node state input in
    omega (arith, rest, one)
from-count settings node state (Gave answer ∷ events) =
    let rest = from-count settings node (after_event settings node state (Gave answer)) events in
    let same = answer-count state answer in
    omega (arith, rest, same)

pub few-admitted : FewAreAdmitted
few-admitted settings node events = let all = from-count settings node (after settings node []) events in omega (arith, all)
