-- Who gives way at an agent that has too much pinned: one trigger id, the one that holds most, and where several hold as many,
-- the smallest. It gives up, whole, the group that matters least among those that still hold a chunk: the lowest rank of a lead,
-- then the lowest node, then the lowest number. This is repeated until no more is pinned than may be.
use Rattle.std.specs.Prelude.{ℕ, nat_lt, List, [], ◌∷◌, ◌++◌, length, filter, filter_map, if◌then◌else◌, not}
use Rattle.std.specs.Option.{option_map_or}
use Rattle.hs_base.specs.declared.told.Group.{Group}
pub use Rattle.hs_pins.specs.Choosing.{least}
pub use Rattle.hs_pins.specs.Priorities.{group_cmp, is_no_greater}
pub use Rattle.hs_pins.specs.Abandoning.{count_of_id, id_cmp, fullest_id, least_of_id, next_to_go}
use Rattle.hs_records.specs.Plain.{PlainSettings}
use Rattle.hs_law_agent.specs.Standings.{Abandoned, pinned_for, is_pinned_for, moved}
use Rattle.hs_law_agent.specs.State.{AgentState}

-- the groups of the pinned chunks, each as often as it has one
abbrev pub pinned_groups : AgentState → List Group
pinned_groups state = filter_map (pinned_for state.taken) state.pinned

-- a group goes, and all its pinned chunks with it, the one pinned first in front
abbrev pub abandon_group : Group → AgentState → AgentState
abandon_group group state =
    let places = filter (is_pinned_for state.taken group) state.pinned in
    record state {
      taken = moved places (λ _. Abandoned group) state.taken;
      pinned = filter (λ place. not (is_pinned_for state.taken group place)) state.pinned;
      abandoned = state.abandoned ++ group ∷ [];
      hand = state.hand ++ places;
    }

-- groups go as long as too many chunks are pinned; each takes a chunk at least, so there are no more than places
abbrev pub abandon_within : PlainSettings → List ℕ → AgentState → AgentState
abandon_within settings [] state = state
abandon_within settings (place ∷ places) state =
    if nat_lt settings.pins (length state.pinned)
    then option_map_or (λ group. abandon_within settings places (abandon_group group state)) (next_to_go (pinned_groups state)) state else state

abbrev pub abandon : PlainSettings → AgentState → AgentState
abandon settings state = abandon_within settings state.pinned state
