-- That what waits for a trigger id stands in the order of the model.
use Rattle.std.proofs.Common.{◌≡◌, ℕ, Bool, true, false, cond, List, [], ◌∷◌, map, filter, Option, Some, None, slice_get, nat_eq, refl, ap, ◌∙◌}
use Rattle.hs_agent.proofs.Prelude.{option_and_then, option_map_or, Group, TriggerId, ordered_by, put_by, Pin, pins_under, is_under, goes_behind, is_no_greater, Taken, ChunkStanding, Pinned, Reported, Evicted, Abandoned, pinning_group, pinned_for, stands, AgentState}
use Rattle.hs_pins.specs.Waiting as pins
use Rattle.hs_law_agent.specs.Standings.{Indexed}
use Rattle.hs_law_agent.specs.Abandoning as model_order
use Rattle.hs_law_agent.specs.Turning.{is_pinned_under, place_is_no_greater, put_before, by_priority}
use Rattle.hs_law_agent.specs.Turning as model
use Rattle.hs_agent.proofs.GivingWay.{ArePinned}

same_order : (group other : Group) → model_order.is_no_greater group other ≡ is_no_greater group other
same_order group other = refl

pinned_under : (id : ℕ) (group : Group) (standing : ChunkStanding) → pinning_group standing ≡ Some group → is_pinned_under id standing ≡ nat_eq group.trigger.0 id
pinned_under id group Indexed e = cc
pinned_under id group (Pinned g) e = let same : g ≡ group = cc in ap (λ (x : Group). nat_eq x.trigger.0 id) same
pinned_under id group (Reported g) e = cc
pinned_under id group (Evicted chunks traces) e = cc
pinned_under id group (Abandoned g) e = cc

stands_under : (taken : List Taken) (id : ℕ) (group : Group) (place : ℕ) → pinned_for taken place ≡ Some group → stands (is_pinned_under id) taken place ≡ nat_eq group.trigger.0 id
stands_under taken id group place e = by (slice_get taken place) e
  where
    by : (chunk : Option Taken) → option_and_then (λ (t : Taken). pinning_group t.standing) chunk ≡ Some group
        → option_map_or (λ (t : Taken). is_pinned_under id t.standing) chunk false ≡ nat_eq group.trigger.0 id
    by None h = cc
    by (Some t) h = pinned_under id group t.standing h

no_greater_at : (taken : List Taken) (place other : ℕ) (group group' : Group) → pinned_for taken place ≡ Some group → pinned_for taken other ≡ Some group' → place_is_no_greater taken place other ≡ is_no_greater group group'
no_greater_at taken place other group group' e f =
    ap (λ o. option_map_or (λ g. option_map_or (model_order.is_no_greater g) (pinned_for taken other) false) o false) e
    ∙ ap (λ o. option_map_or (model_order.is_no_greater group) o false) f

module _ {L : Type 0} (place_of : Pin L → ℕ) (taken : List Taken) where
  places-under : (id : TriggerId) (pinned : List (Pin L)) → ArePinned place_of taken pinned → filter (stands (is_pinned_under id.0) taken) (map place_of pinned) ≡ map place_of (pins_under id pinned)
  places-under id [] h = refl
  places-under id (pin ∷ pinned) h =
      ap (λ b. cond b (place_of pin ∷ filter (stands (is_pinned_under id.0) taken) (map place_of pinned)) (filter (stands (is_pinned_under id.0) taken) (map place_of pinned))) (stands_under taken id.0 pin.group (place_of pin) h.0)
      ∙ by (is_under id pin) (places-under id pinned h.1)
    where
      by : (b : Bool) → filter (stands (is_pinned_under id.0) taken) (map place_of pinned) ≡ map place_of (pins_under id pinned)
          → cond b (place_of pin ∷ filter (stands (is_pinned_under id.0) taken) (map place_of pinned)) (filter (stands (is_pinned_under id.0) taken) (map place_of pinned)) ≡ map place_of (cond b (pin ∷ pins_under id pinned) (pins_under id pinned))
      by true rest = ap (λ l. place_of pin ∷ l) rest
      by false rest = rest

  are-under : (id : TriggerId) (pinned : List (Pin L)) → ArePinned place_of taken pinned → ArePinned place_of taken (pins_under id pinned)
  are-under id [] h = tt
  are-under id (pin ∷ pinned) h = by (is_under id pin) (are-under id pinned h.1)
    where
      by : (b : Bool) → ArePinned place_of taken (pins_under id pinned) → ArePinned place_of taken (cond b (pin ∷ pins_under id pinned) (pins_under id pinned))
      by true rest = (h.0, rest)
      by false rest = rest

  put-places : (pin : Pin L) (pinned : List (Pin L)) → pinned_for taken (place_of pin) ≡ Some pin.group → ArePinned place_of taken pinned
      → put_before taken (place_of pin) (map place_of pinned) ≡ map place_of (put_by goes_behind pin pinned)
  put-places pin [] e h = refl
  put-places pin (other ∷ pinned) e h =
      ap (λ b. cond b (place_of pin ∷ place_of other ∷ map place_of pinned) (place_of other ∷ put_before taken (place_of pin) (map place_of pinned))) (no_greater_at taken (place_of other) (place_of pin) other.group pin.group h.0 e)
      ∙ by (goes_behind other pin) (put-places pin pinned e h.1)
    where
      by : (b : Bool) → put_before taken (place_of pin) (map place_of pinned) ≡ map place_of (put_by goes_behind pin pinned)
          → cond b (place_of pin ∷ place_of other ∷ map place_of pinned) (place_of other ∷ put_before taken (place_of pin) (map place_of pinned)) ≡ map place_of (cond b (pin ∷ other ∷ pinned) (other ∷ put_by goes_behind pin pinned))
      by true rest = refl
      by false rest = ap (λ l. place_of other ∷ l) rest

  are-put : (pin : Pin L) (pinned : List (Pin L)) → pinned_for taken (place_of pin) ≡ Some pin.group → ArePinned place_of taken pinned → ArePinned place_of taken (put_by goes_behind pin pinned)
  are-put pin [] e h = (e, tt)
  are-put pin (other ∷ pinned) e h = by (goes_behind other pin) (are-put pin pinned e h.1)
    where
      by : (b : Bool) → ArePinned place_of taken (put_by goes_behind pin pinned) → ArePinned place_of taken (cond b (pin ∷ other ∷ pinned) (other ∷ put_by goes_behind pin pinned))
      by true rest = (e, h)
      by false rest = (h.0, rest)

  are-ordered : (pinned : List (Pin L)) → ArePinned place_of taken pinned → ArePinned place_of taken (ordered_by goes_behind pinned)
  are-ordered [] h = tt
  are-ordered (pin ∷ pinned) h = are-put pin (ordered_by goes_behind pinned) h.0 (are-ordered pinned h.1)

  order-places : (pinned : List (Pin L)) → ArePinned place_of taken pinned → by_priority taken (map place_of pinned) ≡ map place_of (ordered_by goes_behind pinned)
  order-places [] h = refl
  order-places (pin ∷ pinned) h =
      ap (put_before taken (place_of pin)) (order-places pinned h.1) ∙ put-places pin (ordered_by goes_behind pinned) h.0 (are-ordered pinned h.1)

-- what waits for a trigger id is the same in the model and among the pins
pub same_order_of : {L : Type 0} (place_of : Pin L → ℕ) (state : AgentState) (pinned : List (Pin L)) (id : TriggerId) → state.pinned ≡ map place_of pinned → ArePinned place_of state.taken pinned
    → model.order_of state id.0 ≡ map place_of (pins.order_of pinned id)
same_order_of place_of state pinned id is are =
    ap (λ places. by_priority state.taken (filter (stands (is_pinned_under id.0) state.taken) places)) is
    ∙ ap (by_priority state.taken) (places-under place_of state.taken id pinned are)
    ∙ order-places place_of state.taken (pins_under id pinned) (are-under place_of state.taken id pinned are)
