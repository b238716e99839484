-- Who gives way where more chunks are pinned than may be. It is a group of the trigger id
-- that holds most of them, and where several ids hold as many, of the smallest. Among those for which something of the id is
-- pinned, the group goes that matters least: by the rank of its lead, then its node, then its number. It goes whole, and this
-- is done again until few enough are pinned.
use Rattle.std.specs.Prelude.{ℕ, ◌==◌, nat_lt, List, [], ◌∷◌, ◌++◌, length, map, filter, Option, if◌then◌else◌}
use Rattle.std.specs.Option.{option_and_then, option_map_or}
use Rattle.std.specs.declared.cmp.Ordering.{Ordering}
use Rattle.std.specs.Ordering.{nat_cmp, ordering_then}
use Rattle.hs_base.specs.declared.told.Group.{Group}
use Rattle.hs_pins.specs.Choosing.{least}
use Rattle.hs_pins.specs.Priorities.{group_cmp}
use Rattle.hs_pins.specs.Remembered.{Pin, Remembered, pins_for, without_group}

-- the groups of these chunks, each as often as it has one
abbrev pub groups_of : {L : Type 0} → List (Pin L) → List Group
groups_of pinned = map (λ pin. pin.group) pinned

-- how many of these are of the trigger id
abbrev pub count_of_id : List Group → ℕ → ℕ
count_of_id groups id = length (filter (λ (group : Group). group.trigger.0 == id) groups)

-- the order of ids: the one with more pinned chunks first, and of equal ones the smaller
abbrev pub id_cmp : List Group → ℕ → ℕ → Ordering
id_cmp groups id other = ordering_then (nat_cmp (count_of_id groups other) (count_of_id groups id)) (nat_cmp id other)

-- the id for which most is pinned, and of equal ones the smallest
abbrev pub fullest_id : List Group → Option ℕ
fullest_id groups = least (id_cmp groups) (map (λ (group : Group). group.trigger.0) groups)

-- the group of least priority among those of the trigger id
abbrev pub least_of_id : List Group → ℕ → Option Group
least_of_id groups id = least group_cmp (filter (λ (group : Group). group.trigger.0 == id) groups)

-- the group that goes, where these have pinned chunks
abbrev pub next_to_go : List Group → Option Group
next_to_go groups = option_and_then (least_of_id groups) (fullest_id groups)

-- The groups that go, one after another. Each takes a chunk at least, so that there are no more rounds than chunks.
abbrev pub leaving_within : {L : Type 0} → ℕ → List (Pin L) → List (Pin L) → List Group
leaving_within most [] pinned = []
leaving_within most (round ∷ rounds) pinned =
    if nat_lt most (length pinned)
    then option_map_or (λ group. group ∷ leaving_within most rounds (without_group group pinned)) (next_to_go (groups_of pinned)) []
    else []

abbrev pub leaving : {L : Type 0} → ℕ → List (Pin L) → List Group
leaving most pinned = leaving_within most pinned pinned

-- the chunks that stay pinned where these groups go
abbrev pub staying : {L : Type 0} → List Group → List (Pin L) → List (Pin L)
staying [] pinned = pinned
staying (group ∷ groups) pinned = staying groups (without_group group pinned)

-- the chunks that go with them: group after group, each group's in their order
abbrev pub going : {L : Type 0} → List Group → List (Pin L) → List (Pin L)
going [] pinned = []
going (group ∷ groups) pinned = pins_for group pinned ++ going groups (without_group group pinned)

-- the chunks that are dropped
abbrev pub drops : {L : Type 0} → Remembered L → List (Pin L)
drops memory = going (leaving memory.most memory.pinned) memory.pinned

-- after this no more chunks are pinned than may be
abbrev pub relieved : {L : Type 0} → Remembered L → Remembered L
relieved memory =
    record memory {
      pinned = staying (leaving memory.most memory.pinned) memory.pinned;
      abandoned = memory.abandoned ++ leaving memory.most memory.pinned;
    }
