-- A trigger that is noted, and counted, after its group has claimed: it comes to the same as before.
use Rattle.std.proofs.Common.{◌≡◌, ℕ, ◌+◌, Bool, true, false, cond, List, [], ◌∷◌, length, fold, Option, Some, None, nat_lt, refl, sym, ap, ◌∙◌}
use Rattle.hs_agent.proofs.Prelude.{option_map, option_map_or, TraceId, Ask, Group, Trigger, PlainSettings, Remembered, AgentState, is_claimed, claim_trace, claim_unclaimed, claim_each, traces_of, claim_for, note_trigger, count_admitted, Tagged}
use Rattle.hs_base.specs.declared.settings.TriggerRule.{TriggerRule}
use Rattle.hs_pins.specs.Buckets.{attempted}
use Rattle.hs_pins.specs.Remembered.{Tried, admission, answered}
use Rattle.hs_pins.specs.Remembered as pins
use Rattle.hs_law_agent.specs.Abandoning.{abandon_within, abandon_group, pinned_groups, next_to_go}
use Rattle.hs_agent.proofs.Unchanged.{abandon-keeps, claims-keep}

-- with these triggers, and so many of them admitted
abbrev put : List Tried → ℕ → AgentState → AgentState
put tried admitted state = record state { tried = tried; admitted = admitted }

module _ (tried : List Tried) (admitted : ℕ) where
  claims-put : (ask : Ask) (traces : List TraceId) (state : AgentState) → fold (claim_unclaimed ask) (put tried admitted state) traces ≡ put tried admitted (fold (claim_unclaimed ask) state traces)
  claims-put ask [] state = refl
  claims-put ask (trace ∷ traces) state = ap (λ s. fold (claim_unclaimed ask) s traces) (by (is_claimed state.claims trace)) ∙ claims-put ask traces (claim_unclaimed ask state trace)
    where
      by : (b : Bool) → cond b (put tried admitted state) (claim_trace ask trace (put tried admitted state)) ≡ put tried admitted (cond b state (claim_trace ask trace state))
      by true = refl
      by false = refl

  abandon-put : (settings : PlainSettings) (places : List ℕ) (state : AgentState) → abandon_within settings places (put tried admitted state) ≡ put tried admitted (abandon_within settings places state)
  abandon-put settings [] state = refl
  abandon-put settings (place ∷ places) state = by (nat_lt settings.pins (length state.pinned)) (next_to_go (pinned_groups state)) (λ group. abandon-put settings places (abandon_group group state))
    where
      by : (over : Bool) (next : Option Group) → ((group : Group) → abandon_within settings places (put tried admitted (abandon_group group state)) ≡ put tried admitted (abandon_within settings places (abandon_group group state)))
          → cond over (option_map_or (λ group. abandon_within settings places (abandon_group group (put tried admitted state))) next (put tried admitted state)) (put tried admitted state)
          ≡ put tried admitted (cond over (option_map_or (λ group. abandon_within settings places (abandon_group group state)) next state) state)
      by true (Some group) rest = rest group
      by true None rest = refl
      by false next rest = refl

  claim-put : (settings : PlainSettings) (ask : Ask) (state : AgentState) → claim_for settings ask (put tried admitted state) ≡ put tried admitted (claim_for settings ask state)
  claim-put settings ask state =
      ap (λ (s : AgentState). abandon_within settings s.pinned s) (claims-put ask (traces_of ask) state) ∙ abandon-put settings (claim_each ask state).pinned (claim_each ask state)

-- what a group claims says nothing of triggers
pub claim-tried : (settings : PlainSettings) (ask : Ask) (state : AgentState) → (claim_for settings ask state).tried ≡ state.tried
claim-tried settings ask state =
    abandon-keeps (λ (s : AgentState). s.tried) settings (λ group s. refl) (claim_each ask state).pinned (claim_each ask state)
    ∙ claims-keep (λ (s : AgentState). s.tried) ask (λ trace s. refl) (traces_of ask) state

pub claim-admitted : (settings : PlainSettings) (ask : Ask) (state : AgentState) → (claim_for settings ask state).admitted ≡ state.admitted
claim-admitted settings ask state =
    abandon-keeps (λ (s : AgentState). s.admitted) settings (λ group s. refl) (claim_each ask state).pinned (claim_each ask state)
    ∙ claims-keep (λ (s : AgentState). s.admitted) ask (λ trace s. refl) (traces_of ask) state

pub counted-later : (settings : PlainSettings) (ask : Ask) (trigger : Trigger) (state : AgentState)
    → count_admitted (note_trigger trigger (claim_for settings ask state)) ≡ claim_for settings ask (count_admitted (note_trigger trigger state))
counted-later settings ask trigger state =
    (λ i. put (record { trigger = trigger.trigger; moment = trigger.moment } ∷ claim-tried settings ask state i) (claim-admitted settings ask state i + 1) (claim_for settings ask state))
    ∙ sym (claim-put (record { trigger = trigger.trigger; moment = trigger.moment } ∷ state.tried) (state.admitted + 1) settings ask state)

-- the answer to a trigger is the same to who remembers the same rules and triggers
pub answered-same : {L : Type 0} → (memory other : Remembered (Tagged L)) (trigger : Trigger) → memory.rules ≡ other.rules → memory.tried ≡ other.tried → memory.admitted ≡ other.admitted
    → answered memory trigger.trigger trigger.moment ≡ answered other trigger.trigger trigger.moment
answered-same memory other trigger rules tried admitted =
    λ i. option_map (λ (rule : TriggerRule). admission (admitted i) (attempted rule.burst rule.rate (pins.moments_of trigger.trigger (tried i)) trigger.moment)) (pins.rule_of (rules i) trigger.trigger)
