-- Evictions and abandonment go on while there is too much, and no longer.
use Rattle.std.proofs.Common.{◌≡◌, ℕ, ◌+◌, ◌<◌, ◌≤◌, Bool, true, false, cond, List, [], ◌∷◌, ◌++◌, length, refl, ap, arith, Option, Some, None}
use Rattle.hs_law_agent.proofs.Prelude.{nat_lt, option_map_or, ltb-true, ltb-false, TraceId, Group, PlainSettings, AgentState, start, is_over, evict_trace, evict_from, pinned_groups, next_to_go, abandon_group, abandon_within, AgentEvent, after_event, after_from, PlacesMatch, MatchNextToGo}
use Rattle.hs_law_agent.specs.Laws.{IndexedAreTouched, Evicts, Stays, Goes, EvictsWhileOver, Abandons, Remains, Leaves, AbandonsWhileOver, IndexedStayTouched, EventsGoOn}
use Rattle.hs_law_agent.proofs.Traversal.{kept_after}
use Rattle.hs_law_agent.proofs.Placed.{match_kept}
use Rattle.hs_law_agent.proofs.Least.{the_least_goes}
use Rattle.hs_law_agent.proofs.Limits.{touched_kept, touched_evicts, nothing_over, no_groups, few_after}

evicts_from : (settings : PlainSettings) (traces : List TraceId) (s : AgentState) → s.touched ≡ traces → IndexedAreTouched s → Evicts settings s (evict_from settings traces s)
evicts_from settings [] s e m = Stays s (nothing_over settings s e m)
evicts_from settings (trace ∷ later) s e m = go (is_over settings s) refl (evicts_from settings later (evict_trace trace later s) refl (touched_evicts trace later s e m))
  where
    go : (b : Bool) → is_over settings s ≡ b → Evicts settings (evict_trace trace later s) (evict_from settings later (evict_trace trace later s))
        → Evicts settings s (cond b (evict_from settings later (evict_trace trace later s)) s)
    go true f next = Goes s (evict_from settings later (evict_trace trace later s)) trace later f e next
    go false f next = Stays s f

pub evicts_while_over : EvictsWhileOver
evicts_while_over settings s m = evicts_from settings s.touched s refl m

abbrev Drops : PlainSettings → List ℕ → Type 0
Drops settings places = (u : AgentState) → PlacesMatch u → length u.pinned ≤ length places + settings.pins → Abandons settings u (abandon_within settings places u)

drops_chosen : (settings : PlainSettings) (place : ℕ) (places : List ℕ) (s : AgentState) → PlacesMatch s → length s.pinned ≤ length (place ∷ places) + settings.pins → Drops settings places → settings.pins < length s.pinned
    → (o : Option Group) → next_to_go (pinned_groups s) ≡ o → MatchNextToGo (pinned_groups s) o → Abandons settings s (option_map_or (λ group. abandon_within settings places (abandon_group group s)) o s)
drops_chosen settings place places s m few rest many None f e = let none = no_groups s m e in let zero_long : length s.pinned ≡ 0 = ap length none in absurd (omega arith)
drops_chosen settings place places s m few rest many (Some group) f next =
    Leaves s (abandon_within settings places (abandon_group group s)) group many next
    (rest (abandon_group group s) ((match_kept settings 0).abandons group s f m) (few_after settings place places s group few next))

drops_if : (settings : PlainSettings) (place : ℕ) (places : List ℕ) (s : AgentState) → PlacesMatch s → length s.pinned ≤ length (place ∷ places) + settings.pins → Drops settings places
    → (b : Bool) → nat_lt settings.pins (length s.pinned) ≡ b
    → Abandons settings s (cond b (option_map_or (λ group. abandon_within settings places (abandon_group group s)) (next_to_go (pinned_groups s)) s) s)
drops_if settings place places s m few rest true f = drops_chosen settings place places s m few rest (ltb-true _ _ f) (next_to_go (pinned_groups s)) refl (the_least_goes (pinned_groups s))
drops_if settings place places s m few rest false f = Remains s (ltb-false _ _ f)

drops : (settings : PlainSettings) (places : List ℕ) → Drops settings places
drops settings [] s m few = Remains s (omega arith)
drops settings (place ∷ places) s m few = drops_if settings place places s m few (drops settings places) (nat_lt settings.pins (length s.pinned)) refl

pub abandons_while_over : AbandonsWhileOver
abandons_while_over settings s m = drops settings s.pinned s m (omega arith)

pub indexed_stay_touched : IndexedStayTouched
indexed_stay_touched settings node events = kept_after settings node IndexedAreTouched (touched_kept settings node) tt events

pub goes_on : (settings : PlainSettings) (node : ℕ) (s : AgentState) (events later : List AgentEvent) → after_from settings node s (events ++ later) ≡ after_from settings node (after_from settings node s events) later
goes_on settings node s [] later = refl
goes_on settings node s (event ∷ events) later = goes_on settings node (after_event settings node s event) events later

pub events_go_on : EventsGoOn
events_go_on settings node events later = goes_on settings node (start settings) events later
