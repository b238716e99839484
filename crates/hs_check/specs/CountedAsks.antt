-- Asks beside messages, as counted: how many messages the coordinator has to have taken by a pass, node by node, and how many asks
-- of a node those send.
use Rattle.std.specs.Prelude.{◌≡◌, ℕ, zero, suc, ◌+◌, ◌-◌, Bool, true, false, ◌==◌, nat_le, min, max, List, [], ◌∷◌, length, slice_index, slice_index_or, if◌then◌else◌, refl}
use Rattle.std.specs.List.{range_with_len, list_all}
use Rattle.hs_base.specs.declared.ids.NodeId.{NodeId}
use Rattle.hs_base.specs.declared.limits.TheConstants.{MAX_TAKEN}
use Rattle.hs_base.specs.declared.node_set.NodeSet.{NodeSet}
use Rattle.hs_base.specs.NodeSets.{has_node}
use Rattle.hs_check_follow.specs.declared.found.FoundNode.{FoundNode}
use Rattle.hs_law_journal.specs.Pace.{due_of}
use Rattle.hs_check.specs.Counting.{one_more}

-- ---- what is due

-- how many messages were said behind so many passes, where that is told of each pass, and none before the first
abbrev pub said_behind : List ℕ → ℕ → ℕ
said_behind said passes = if min passes (length said) == 0 then 0 else slice_index said (min passes (length said) - 1)

-- ---- what is heard

-- how many of these messages, of which so many were heard before, are heard with each one of a node
abbrev pub places_behind : ℕ → ℕ → List NodeId → List ℕ
places_behind node before [] = []
places_behind node before (other ∷ told) = if other.0 == node then (before + 1) ∷ places_behind node (before + 1) told else places_behind node (before + 1) told

-- how many are to be heard until so many of a node are among them, of which the places are these, or all of them
abbrev pub heard_with : List ℕ → ℕ → ℕ → ℕ
heard_with places all due = if due == 0 then 0 else slice_index_or places (due - 1) all

-- how many of these messages are to be heard until so many of a node are among them, or all of them
abbrev pub heard_until : ℕ → ℕ → List NodeId → ℕ
heard_until node zero told = 0
heard_until node (suc due) [] = 0
heard_until node (suc due) (other ∷ told) = suc (heard_until node (if other.0 == node then due else suc due) told)

-- how many are to be heard so many passes behind the first until what is due of each node is among them; the nodes are numbered from
-- here on
abbrev pub heard_for : List NodeId → ℕ → ℕ → List FoundNode → ℕ
heard_for told pass number [] = 0
heard_for told pass number (node ∷ nodes) = max (heard_until number (due_of (said_behind node.said.items) pass) told) (heard_for told pass (number + 1) nodes)

-- the most passes that one of these nodes made
abbrev pub most_passes : List FoundNode → ℕ
most_passes [] = 0
most_passes (node ∷ nodes) = max (length node.said.items) (most_passes nodes)

-- ---- what is asked

-- how many asks of a node are sent with each of these messages, of which so many were sent before; a message leads to asks of these nodes
abbrev pub asks_behind_each : ℕ → ℕ → List NodeSet → List ℕ
asks_behind_each node count [] = []
asks_behind_each node count (to ∷ asked) = one_more (has_node to node) count ∷ asks_behind_each node (one_more (has_node to node) count) asked

-- whether the pass behind this one takes enough asks, where so many were taken before the first pass and behind each, so many are
-- sent by the first so many messages, and so many messages are to be heard by each pass
abbrev pub ask_enough_at : (taken sent heard : List ℕ) → ℕ → Bool
ask_enough_at taken sent heard k =
    nat_le (min (slice_index sent (slice_index heard (k - 1)) - slice_index taken k) MAX_TAKEN) (slice_index taken (k + 1) - slice_index taken k)

abbrev pub all_ask_enough : (taken sent heard : List ℕ) → Bool
all_ask_enough taken sent heard = list_all (ask_enough_at taken sent heard) (range_with_len 1 (length taken - 2))

-- ---- examples

-- of six messages the third is the second one of node 7; there is no fourth one of it
second_of_seven : (heard_until 7 2 (record { 0 = 7 } ∷ record { 0 = 1 } ∷ record { 0 = 7 } ∷ record { 0 = 1 } ∷ record { 0 = 7 } ∷ record { 0 = 1 } ∷ []) ≡ 3)
    × (heard_until 7 4 (record { 0 = 7 } ∷ record { 0 = 1 } ∷ record { 0 = 7 } ∷ record { 0 = 1 } ∷ record { 0 = 7 } ∷ record { 0 = 1 } ∷ []) ≡ 6)
    × (heard_until 7 0 (record { 0 = 7 } ∷ []) ≡ 0)
    × (places_behind 7 0 (record { 0 = 7 } ∷ record { 0 = 1 } ∷ record { 0 = 7 } ∷ []) ≡ 1 ∷ 3 ∷ [])
second_of_seven = (refl, refl, refl, refl)

-- two messages were said in the first pass and a third one in the second
said_three : (said_behind (2 ∷ 3 ∷ []) 0 ≡ 0) × (said_behind (2 ∷ 3 ∷ []) 1 ≡ 2) × (said_behind (2 ∷ 3 ∷ []) 2 ≡ 3) × (said_behind (2 ∷ 3 ∷ []) 9 ≡ 3)
said_three = (refl, refl, refl, refl)

-- of the 70 asks that the two messages send which are due by the first pass, the second one takes 64
seventy : (all_ask_enough (0 ∷ 0 ∷ 64 ∷ []) (0 ∷ 1 ∷ 70 ∷ []) (2 ∷ []) ≡ true) × (all_ask_enough (0 ∷ 0 ∷ 63 ∷ []) (0 ∷ 1 ∷ 70 ∷ []) (2 ∷ []) ≡ false)
seventy = (refl, refl)
