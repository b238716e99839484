-- The pinned chunks of one trigger id while chunks become pinned for one of its groups, whose chunks are kept apart from those of
-- the others, with room for more.
use Rattle.std.specs.Prelude.{ℕ, List, [], ◌∷◌, IsSome}
use Rattle.std.specs.List.Sorted.{IsStrictlySortedBy}
use Rattle.std.specs.Map.{lookup, set_value, remove_entry, keys_of}
use Rattle.hs_words.specs.Buffers.{Buffer}
use Rattle.hs_pins.specs.declared.priority.Priority.{Priority}
use Rattle.hs_pins.specs.Priorities.{priority_cmp, same_priority}
use Rattle.hs_pins.specs.Groups.{Groups}
use Rattle.hs_pins.specs.Counting.{IsCounted}

-- the groups, which of them more becomes pinned for, and for how many chunks there is room
pub record OpenGroups (L : Type 0) : Type 0 where
  pub groups : Groups L
  pub priority : Priority
  pub room : ℕ

-- the groups where the one of this priority has these chunks, and is none of them where there are none
abbrev pub with_pile : {L : Type 0} → Groups L → Priority → List (Buffer L) → Groups L
with_pile groups priority [] = remove_entry (same_priority priority) groups
with_pile groups priority (b ∷ bs) = set_value (same_priority priority) groups (b ∷ bs)

-- The group that is open has a place among the groups, which rise; and with its chunks there, all chunks are counted.
pub record IsOpen {L : Type 0} (groups : Groups L) (priority : Priority) (pile : List (Buffer L)) (count : ℕ) : Type 0 where
  pub found : IsSome (lookup (same_priority priority) groups)
  pub rising : IsStrictlySortedBy priority_cmp (keys_of groups)
  pub counted : IsCounted (with_pile groups priority pile) count
