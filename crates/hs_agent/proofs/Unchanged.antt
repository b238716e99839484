-- What the steps of the model leave as it was: only the note of a step changes the log, and claims change no crumbs.
use Rattle.std.proofs.Common.{◌≡◌, ℕ, Bool, true, false, cond, List, [], ◌∷◌, length, fold, nat_lt, Option, Some, None, refl, ap, ◌∙◌}
use Rattle.hs_agent.proofs.Prelude.{option_map_or, TraceId, Ask, Crumb, Group, Trigger, Step, PlainSettings, Share, Sheet, AgentState, ClaimedTrace, is_claimed, is_abandoned, evict_trace, evict, claim_trace, claim_unclaimed, claim_each, traces_of, abandon, report, visit, has_crumb, Chunk, Crumbed, Triggered, Asked, Turn, take_input, take_chunk, take_crumb, take_trigger, pin_chunk, late_crumb, tell_late, claim_for, admits, admit, note_trigger, count_admitted, group_of, with_indexed, with_touched, with_pinned, with_abandoned}
use Rattle.hs_law_agent.specs.State.{claim_of}
use Rattle.hs_law_agent.specs.Evicting.{is_over, evict_from}
use Rattle.hs_law_agent.specs.Abandoning.{abandon_group, abandon_within, next_to_go, pinned_groups}
use Rattle.hs_law_agent.specs.Stepping.{Input}

module _ {X : Type 0} (f : AgentState → X) (settings : PlainSettings) where
  pub evict-keeps : ((trace : TraceId) (later : List TraceId) (state : AgentState) → f (evict_trace trace later state) ≡ f state) → (traces : List TraceId) (state : AgentState) → f (evict_from settings traces state) ≡ f state
  evict-keeps keeps [] state = refl
  evict-keeps keeps (trace ∷ later) state = by (is_over settings state) (evict-keeps keeps later (evict_trace trace later state))
    where
      by : (over : Bool) → f (evict_from settings later (evict_trace trace later state)) ≡ f (evict_trace trace later state) → f (cond over (evict_from settings later (evict_trace trace later state)) state) ≡ f state
      by true rest = rest ∙ keeps trace later state
      by false rest = refl

  pub abandon-keeps : ((group : Group) (state : AgentState) → f (abandon_group group state) ≡ f state) → (places : List ℕ) (state : AgentState) → f (abandon_within settings places state) ≡ f state
  abandon-keeps keeps [] state = refl
  abandon-keeps keeps (place ∷ places) state = by (nat_lt settings.pins (length state.pinned)) (next_to_go (pinned_groups state)) (λ group. abandon-keeps keeps places (abandon_group group state) ∙ keeps group state)
    where
      by : (over : Bool) (next : Option Group) → ((group : Group) → f (abandon_within settings places (abandon_group group state)) ≡ f state)
          → f (cond over (option_map_or (λ group. abandon_within settings places (abandon_group group state)) next state) state) ≡ f state
      by true (Some group) rest = rest group
      by true None rest = refl
      by false next rest = refl

  pub visits-keep : ((places : List ℕ) (state : AgentState) → f (report places state) ≡ f state) → (shares : List Share) (state : AgentState) → f (fold (visit settings) state shares) ≡ f state
  visits-keep keeps [] state = refl
  visits-keep keeps (share ∷ shares) state = visits-keep keeps shares (visit settings state share) ∙ keeps _ state

module _ {X : Type 0} (f : AgentState → X) (ask : Ask) where
  pub claims-keep : ((trace : TraceId) (state : AgentState) → f (claim_trace ask trace state) ≡ f state) → (traces : List TraceId) (state : AgentState) → f (fold (claim_unclaimed ask) state traces) ≡ f state
  claims-keep keeps [] state = refl
  claims-keep keeps (trace ∷ traces) state = claims-keep keeps traces (claim_unclaimed ask state trace) ∙ by (is_claimed state.claims trace)
    where
      by : (claimed : Bool) → f (cond claimed state (claim_trace ask trace state)) ≡ f state
      by true = refl
      by false = keeps trace state

-- a claim changes no crumbs
pub claim-crumbs : (settings : PlainSettings) (ask : Ask) (state : AgentState) → (claim_for settings ask state).crumbs ≡ state.crumbs
claim-crumbs settings ask state =
    abandon-keeps (λ (s : AgentState). s.crumbs) settings (λ group s. refl) (claim_each ask state).pinned (claim_each ask state)
    ∙ claims-keep (λ (s : AgentState). s.crumbs) ask (λ trace s. refl) (traces_of ask) state

-- ---- the log and the shares

abbrev noted : AgentState → List Step × List Share
noted state = (state.log, state.shares)

module _ (settings : PlainSettings) where
  evict-noted : (state : AgentState) → noted (evict settings state) ≡ noted state
  evict-noted state = evict-keeps noted settings (λ trace later s. refl) state.touched state

  abandon-noted : (state : AgentState) → noted (abandon settings state) ≡ noted state
  abandon-noted state = abandon-keeps noted settings (λ group s. refl) state.pinned state

  claim-noted : (ask : Ask) (state : AgentState) → noted (claim_for settings ask state) ≡ noted state
  claim-noted ask state = abandon-noted (claim_each ask state) ∙ claims-keep noted ask (λ trace s. refl) (traces_of ask) state

  chunk-noted : (sheet : Sheet) (state : AgentState) → noted (take_chunk settings sheet state) ≡ noted state
  chunk-noted sheet state = by (claim_of state.claims sheet.header.trace)
    where
      pinned : (group : Group) (gone : Bool) → noted (cond gone (with_abandoned sheet group state) (abandon settings (with_pinned sheet group state))) ≡ noted state
      pinned group true = refl
      pinned group false = abandon-noted (with_pinned sheet group state)

      by : (claim : Option ClaimedTrace) → noted (option_map_or (λ (c : ClaimedTrace). pin_chunk settings sheet c.group state) claim (evict settings (with_indexed sheet state))) ≡ noted state
      by None = evict-noted (with_indexed sheet state)
      by (Some claim) = pinned claim.group (is_abandoned state.abandoned claim.group)

  crumb-noted : (crumb : Crumb) (state : AgentState) → noted (take_crumb settings crumb state) ≡ noted state
  crumb-noted crumb state = by (claim_of state.claims crumb.trace)
    where
      late : (claim : ClaimedTrace) (known : Bool) → noted (cond known state (tell_late crumb claim state)) ≡ noted state
      late claim true = refl
      late claim false = refl

      by : (claim : Option ClaimedTrace) → noted (option_map_or (λ c. late_crumb crumb c state) claim (evict settings (with_touched crumb state))) ≡ noted state
      by None = evict-noted (with_touched crumb state)
      by (Some claim) = late claim (has_crumb state.crumbs crumb)

  trigger-noted : (node : ℕ) (trigger : Trigger) (state : AgentState) → noted (take_trigger settings node trigger state) ≡ noted state
  trigger-noted node trigger state = by (admits settings state.tried trigger)
    where
      by : (admitted : Bool) → noted (cond admitted (admit settings node trigger (note_trigger trigger state)) (note_trigger trigger state)) ≡ noted state
      by true = claim-noted (group_of node (note_trigger trigger state) trigger) (count_admitted (note_trigger trigger state))
      by false = refl

  -- an input changes the log by its note alone
  pub input-log : (node : ℕ) (state : AgentState) (input : Input) → (take_input settings node state input).log ≡ state.log
  input-log node state (Chunk client sheet) = ap (λ p. p.0) (chunk-noted sheet state)
  input-log node state (Crumbed client crumb) = ap (λ p. p.0) (crumb-noted crumb state)
  input-log node state (Triggered client trigger) = ap (λ p. p.0) (trigger-noted node trigger state)
  input-log node state (Asked ask) = ap (λ p. p.0) (claim-noted ask state)
  input-log node state Turn = visits-keep (λ (s : AgentState). s.log) settings (λ places s. refl) state.shares state

  -- and only a turn changes the shares
  pub chunk-shares : (sheet : Sheet) (state : AgentState) → (take_chunk settings sheet state).shares ≡ state.shares
  chunk-shares sheet state = ap (λ p. p.1) (chunk-noted sheet state)

  pub crumb-shares : (crumb : Crumb) (state : AgentState) → (take_crumb settings crumb state).shares ≡ state.shares
  crumb-shares crumb state = ap (λ p. p.1) (crumb-noted crumb state)

  pub trigger-shares : (node : ℕ) (trigger : Trigger) (state : AgentState) → (take_trigger settings node trigger state).shares ≡ state.shares
  trigger-shares node trigger state = ap (λ p. p.1) (trigger-noted node trigger state)

  pub claim-shares : (ask : Ask) (state : AgentState) → (claim_for settings ask state).shares ≡ state.shares
  claim-shares ask state = ap (λ p. p.1) (claim-noted ask state)
