-- The pinned chunks of one trigger id: its groups that have one, in rising priority, each with its chunks as
-- they were pinned, first to last.
use Rattle.std.specs.Prelude.{ℕ, ◌-◌, List, [], ◌∷◌, ◌++◌, length, drop, sum_by, slice_get, Option, Some, None, unwrap_or, is_some, if◌then◌else◌}
use Rattle.std.specs.Option.{option_map, option_and_then}
use Rattle.std.specs.Map.{lookup, set_value, remove_entry, values_of}
use Rattle.std.specs.BTreeMap.{insert_entry}
use Rattle.hs_pins.specs.declared.priority.Priority.{Priority}
use Rattle.hs_pins.specs.Priorities.{priority_cmp, same_priority}
use Rattle.hs_words.specs.Buffers.{Buffer}

abbrev pub Groups : Type 0 → Type 0
Groups L = List (Priority × List (Buffer L))

-- how many chunks there are
abbrev pub count_of : {L : Type 0} → Groups L → ℕ
count_of groups = sum_by (λ chunks. length chunks) (values_of groups)

-- the chunks of the group with this priority, and none where it has none
abbrev pub chunks_of : {L : Type 0} → Groups L → Priority → List (Buffer L)
chunks_of groups priority = unwrap_or (lookup (same_priority priority) groups) []

-- the groups where the one of this priority has these chunks: it keeps its place, or joins at the place of its priority
abbrev pub with_chunks : {L : Type 0} → Groups L → Priority → List (Buffer L) → Groups L
with_chunks groups priority chunks =
    if is_some (lookup (same_priority priority) groups) then set_value (same_priority priority) groups chunks
    else insert_entry priority_cmp groups priority chunks

-- the groups where chunks became pinned for the one of this priority
abbrev pub pinned : {L : Type 0} → Groups L → Priority → List (Buffer L) → Groups L
pinned groups priority [] = groups
pinned groups priority (b ∷ bs) = with_chunks groups priority (chunks_of groups priority ++ b ∷ bs)

-- the greatest priority
abbrev pub greatest_of : {L : Type 0} → Groups L → Option Priority
greatest_of groups = option_map (λ e. e.0) (slice_get groups (length groups - 1))

-- the next chunk: the first of the group of greatest priority
abbrev pub next_of : {L : Type 0} → Groups L → Option (Priority × Buffer L)
next_of groups = option_and_then (λ priority. option_map (λ b. (priority, b)) (slice_get (chunks_of groups priority) 0)) (greatest_of groups)

-- the groups where the one of this priority has lost its first chunk: with its last chunk it goes
abbrev pub without_first : {L : Type 0} → Groups L → Priority → List (Buffer L) → Groups L
without_first groups priority [] = remove_entry (same_priority priority) groups
without_first groups priority (b ∷ bs) = set_value (same_priority priority) groups (b ∷ bs)

-- the groups without the next chunk
abbrev pub without_next : {L : Type 0} → Groups L → Option Priority → Groups L
without_next groups None = groups
without_next groups (Some priority) = without_first groups priority (drop 1 (chunks_of groups priority))
