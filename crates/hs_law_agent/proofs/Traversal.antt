-- What every small step keeps holds after any events.
use Rattle.std.proofs.Common.{◌≡◌, ℕ, Bool, true, false, cond, List, [], ◌∷◌, length, refl, Option, Some, None}
use Rattle.hs_law_agent.proofs.Prelude.{fold, nat_lt, option_map_or, TraceId, Ask, Crumb, Group, Told, Trigger, Step, PlainSettings, Share, Sheet, AgentState, ClaimedTrace, start, claim_of, is_claimed, is_abandoned, is_over, evict_trace, evict_from, evict, claim_trace, claim_unclaimed, traces_of, claim_each, pinned_groups, next_to_go, abandon_group, abandon_within, abandon, visit, has_crumb, told_of, Input, Chunk, Crumbed, Triggered, Asked, Turn, Answered, Given, Missed, Unread, AgentEvent, Took, Gave, with_indexed, with_pinned, with_abandoned, pin_chunk, with_touched, tell_late, late_crumb, admits, group_of, claim_for, note_trigger, count_admitted, admit, take_input, give_place, give_back, take_answer, after_event, after_from, after}
use Rattle.hs_law_agent.specs.Turning.{with_shares, shares_after}
use Rattle.hs_law_agent.specs.Messages.{say}
use Rattle.hs_law_agent.specs.Stepping.{take_trigger, note}

-- What is kept by each small step of a node's agent.
pub record IsKept (settings : PlainSettings) (node : ℕ) (P : AgentState → Type 0) : Type 0 where
  pub evicts : (trace : TraceId) (later : List TraceId) (s : AgentState) → s.touched ≡ trace ∷ later → is_over settings s ≡ true → P s → P (evict_trace trace later s)
  pub claims : (ask : Ask) (trace : TraceId) (s : AgentState) → is_claimed s.claims trace ≡ false → P s → P (claim_trace ask trace s)
  pub abandons : (group : Group) (s : AgentState) → next_to_go (pinned_groups s) ≡ Some group → P s → P (abandon_group group s)
  pub visits : (s : AgentState) (share : Share) → P s → P (visit settings s share)
  pub shares : (shares : List Share) (s : AgentState) → P s → P (with_shares shares s)
  pub indexes : (sheet : Sheet) (s : AgentState) → claim_of s.claims sheet.header.trace ≡ None → P s → P (with_indexed sheet s)
  pub drops : (sheet : Sheet) (claim : ClaimedTrace) (s : AgentState) → claim_of s.claims sheet.header.trace ≡ Some claim → is_abandoned s.abandoned claim.group ≡ true → P s → P (with_abandoned sheet claim.group s)
  pub pins : (sheet : Sheet) (claim : ClaimedTrace) (s : AgentState) → claim_of s.claims sheet.header.trace ≡ Some claim → P s → P (with_pinned sheet claim.group s)
  pub touches : (crumb : Crumb) (s : AgentState) → claim_of s.claims crumb.trace ≡ None → P s → P (with_touched crumb s)
  pub tells : (crumb : Crumb) (claim : ClaimedTrace) (s : AgentState) → claim_of s.claims crumb.trace ≡ Some claim → has_crumb s.crumbs crumb ≡ false → P s → P (tell_late crumb claim s)
  pub tries : (trigger : Trigger) (s : AgentState) → P s → P (note_trigger trigger s)
  pub counts : (s : AgentState) → P s → P (count_admitted s)
  pub says : (told : Told) (s : AgentState) → P s → P (say told s)
  pub notes : (step : Step) (s : AgentState) → P s → P (note step s)
  pub gives : (stamp place : ℕ) (hand : List ℕ) (s : AgentState) → s.hand ≡ place ∷ hand → P s → P (give_place stamp place hand s)

-- ---- the loops, for what one step of them keeps

module _ (settings : PlainSettings) (P : AgentState → Type 0) where
  module _ (step : (trace : TraceId) (later : List TraceId) (s : AgentState) → s.touched ≡ trace ∷ later → is_over settings s ≡ true → P s → P (evict_trace trace later s)) where
    evict_if : (trace : TraceId) (later : List TraceId) (s : AgentState) → s.touched ≡ trace ∷ later → ((u : AgentState) → u.touched ≡ later → P u → P (evict_from settings later u))
        → (over : Bool) → is_over settings s ≡ over → P s → P (cond over (evict_from settings later (evict_trace trace later s)) s)
    evict_if trace later s e next true over p = next (evict_trace trace later s) refl (step trace later s e over p)
    evict_if trace later s e next false over p = p

    pub evict_loop : (traces : List TraceId) (s : AgentState) → s.touched ≡ traces → P s → P (evict_from settings traces s)
    evict_loop [] s e p = p
    evict_loop (trace ∷ later) s e p = evict_if trace later s e (evict_loop later) (is_over settings s) refl p

  module _ (step : (group : Group) (s : AgentState) → next_to_go (pinned_groups s) ≡ Some group → P s → P (abandon_group group s)) where
    abandon_if : (places : List ℕ) (s : AgentState) → ((u : AgentState) → P u → P (abandon_within settings places u))
        → (chosen : Option Group) → next_to_go (pinned_groups s) ≡ chosen → P s → P (option_map_or (λ group. abandon_within settings places (abandon_group group s)) chosen s)
    abandon_if places s next None e p = p
    abandon_if places s next (Some group) e p = next (abandon_group group s) (step group s e p)

    pub abandon_loop : (places : List ℕ) (s : AgentState) → P s → P (abandon_within settings places s)
    abandon_loop [] s p = p
    abandon_loop (place ∷ places) s p =
        elim (nat_lt settings.pins (length s.pinned))
        as (λ b. P (cond b (option_map_or (λ group. abandon_within settings places (abandon_group group s)) (next_to_go (pinned_groups s)) s) s))
        [ true ↦ abandon_if places s (abandon_loop places) (next_to_go (pinned_groups s)) refl p | false ↦ p ]

  module _ (step : (s : AgentState) (share : Share) → P s → P (visit settings s share)) where
    pub visit_loop : (shares : List Share) (s : AgentState) → P s → P (fold (visit settings) s shares)
    visit_loop [] s p = p
    visit_loop (share ∷ shares) s p = visit_loop shares (visit settings s share) (step s share p)

module _ (P : AgentState → Type 0) (step : (ask : Ask) (trace : TraceId) (s : AgentState) → is_claimed s.claims trace ≡ false → P s → P (claim_trace ask trace s)) where
  claim_if : (ask : Ask) (s : AgentState) (trace : TraceId) (claimed : Bool) → is_claimed s.claims trace ≡ claimed → P s → P (cond claimed s (claim_trace ask trace s))
  claim_if ask s trace true e p = p
  claim_if ask s trace false e p = step ask trace s e p

  pub claim_loop : (ask : Ask) (traces : List TraceId) (s : AgentState) → P s → P (fold (claim_unclaimed ask) s traces)
  claim_loop ask [] s p = p
  claim_loop ask (trace ∷ traces) s p = claim_loop ask traces (claim_unclaimed ask s trace) (claim_if ask s trace (is_claimed s.claims trace) refl p)

-- ---- events

module _ (settings : PlainSettings) (node : ℕ) (P : AgentState → Type 0) (kept : IsKept settings node P) where
  pub kept_evicting : (traces : List TraceId) (s : AgentState) → s.touched ≡ traces → P s → P (evict_from settings traces s)
  kept_evicting traces s e p = evict_loop settings P kept.evicts traces s e p

  pub kept_claims : (ask : Ask) (traces : List TraceId) (s : AgentState) → P s → P (fold (claim_unclaimed ask) s traces)
  kept_claims ask traces s p = claim_loop P kept.claims ask traces s p

  pub kept_abandoning : (places : List ℕ) (s : AgentState) → P s → P (abandon_within settings places s)
  kept_abandoning places s p = abandon_loop settings P kept.abandons places s p

  kept_visits : (shares : List Share) (s : AgentState) → P s → P (fold (visit settings) s shares)
  kept_visits shares s p = visit_loop settings P kept.visits shares s p

  pin_if : (sheet : Sheet) (claim : ClaimedTrace) (s : AgentState) → claim_of s.claims sheet.header.trace ≡ Some claim → (gone : Bool) → is_abandoned s.abandoned claim.group ≡ gone → P s
      → P (cond gone (with_abandoned sheet claim.group s) (abandon settings (with_pinned sheet claim.group s)))
  pin_if sheet claim s had true gone p = kept.drops sheet claim s had gone p
  pin_if sheet claim s had false gone p = kept_abandoning (with_pinned sheet claim.group s).pinned (with_pinned sheet claim.group s) (kept.pins sheet claim s had p)

  chunk_if : (sheet : Sheet) (s : AgentState) (claim : Option ClaimedTrace) → claim_of s.claims sheet.header.trace ≡ claim → P s
      → P (option_map_or (λ (claim : ClaimedTrace). pin_chunk settings sheet claim.group s) claim (evict settings (with_indexed sheet s)))
  chunk_if sheet s None free p = kept_evicting (with_indexed sheet s).touched (with_indexed sheet s) refl (kept.indexes sheet s free p)
  chunk_if sheet s (Some claim) had p = pin_if sheet claim s had (is_abandoned s.abandoned claim.group) refl p

  late_if : (crumb : Crumb) (claim : ClaimedTrace) (s : AgentState) → claim_of s.claims crumb.trace ≡ Some claim → (known : Bool) → has_crumb s.crumbs crumb ≡ known → P s
      → P (cond known s (tell_late crumb claim s))
  late_if crumb claim s had true known p = p
  late_if crumb claim s had false known p = kept.tells crumb claim s had known p

  crumb_if : (crumb : Crumb) (s : AgentState) (claim : Option ClaimedTrace) → claim_of s.claims crumb.trace ≡ claim → P s
      → P (option_map_or (λ claim. late_crumb crumb claim s) claim (evict settings (with_touched crumb s)))
  crumb_if crumb s None free p = kept_evicting (with_touched crumb s).touched (with_touched crumb s) refl (kept.touches crumb s free p)
  crumb_if crumb s (Some claim) had p = late_if crumb claim s had (has_crumb s.crumbs crumb) refl p

  kept_claim_for : (ask : Ask) (s : AgentState) → P s → P (claim_for settings ask s)
  kept_claim_for ask s p = kept_abandoning (claim_each ask s).pinned (claim_each ask s) (kept_claims ask (traces_of ask) s p)

  kept_admit : (trigger : Trigger) (s : AgentState) → P s → P (admit settings node trigger s)
  kept_admit trigger s p =
      kept.says (told_of s.crumbs (group_of node s trigger) _) (claim_for settings (group_of node s trigger) (count_admitted s)) (kept_claim_for (group_of node s trigger) (count_admitted s) (kept.counts s p))

  kept_trigger : (trigger : Trigger) (s : AgentState) → P s → P (take_trigger settings node trigger s)
  kept_trigger trigger s p =
      elim (admits settings s.tried trigger) as (λ b. P (cond b (admit settings node trigger (note_trigger trigger s)) (note_trigger trigger s)))
      [ true ↦ kept_admit trigger (note_trigger trigger s) (kept.tries trigger s p) | false ↦ kept.tries trigger s p ]

  kept_input : (s : AgentState) (input : Input) → P s → P (take_input settings node s input)
  kept_input s (Chunk client sheet) p = chunk_if sheet s (claim_of s.claims sheet.header.trace) refl p
  kept_input s (Crumbed client crumb) p = crumb_if crumb s (claim_of s.claims crumb.trace) refl p
  kept_input s (Triggered client trigger) p = kept_trigger trigger s p
  kept_input s (Asked ask) p = kept.says (told_of s.crumbs ask _) (claim_for settings ask s) (kept_claim_for ask s p)
  kept_input s Turn p = kept.shares (shares_after settings s) (fold (visit settings) s s.shares) (kept_visits s.shares s p)

  give_if : (stamp : ℕ) (s : AgentState) (hand : List ℕ) → s.hand ≡ hand → P s → P (give_back stamp hand s)
  give_if stamp s [] e p = p
  give_if stamp s (place ∷ hand) e p = kept.gives stamp place hand s e p

  kept_answer : (s : AgentState) (answer : Answered) → P s → P (take_answer s answer)
  kept_answer s (Given stamp) p = give_if stamp s s.hand refl p
  kept_answer s (Missed stamp) p = p
  kept_answer s Unread p = p

  pub kept_event : (s : AgentState) (event : AgentEvent) → P s → P (after_event settings node s event)
  kept_event s (Took input) p = kept.notes _ (take_input settings node s input) (kept_input s input p)
  kept_event s (Gave answer) p = kept.notes _ (take_answer s answer) (kept_answer s answer p)

  pub kept_from : (s : AgentState) (events : List AgentEvent) → P s → P (after_from settings node s events)
  kept_from s [] p = p
  kept_from s (event ∷ events) p = kept_from (after_event settings node s event) events (kept_event s event p)

  pub kept_after : P (start settings) → (events : List AgentEvent) → P (after settings node events)
  kept_after p events = kept_from (start settings) events p
