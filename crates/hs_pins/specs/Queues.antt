-- The pinned chunks of a node: for each declared trigger id, rising, its groups.
use Rattle.std.specs.Prelude.{◌≡◌, ◌⊎◌, ℕ, ◌<◌, ◌≤◌, Bool, List, [], map, sum_by, unwrap_or, IsSome}
use Rattle.std.specs.Ordering.{nat_cmp, is_eq}
use Rattle.std.specs.Map.{lookup, set_value, values_of}
use Rattle.hs_base.specs.declared.ids.TriggerId.{TriggerId}
use Rattle.hs_base.specs.declared.settings.TriggerRule.{TriggerRule}
use Rattle.hs_pins.specs.declared.priority.Priority.{Priority}
use Rattle.hs_words.specs.Buffers.{Buffer}
use Rattle.hs_pins.specs.Groups.{Groups, count_of, pinned}

abbrev pub Queues : Type 0 → Type 0
Queues L = List (TriggerId × Groups L)

-- whether two trigger ids are one
abbrev pub same_id : TriggerId → TriggerId → Bool
same_id a b = is_eq (nat_cmp a.0 b.0)

-- whether a trigger id is declared
abbrev pub has_queue : {L : Type 0} → Queues L → TriggerId → Type 0
has_queue queues id = IsSome (lookup (same_id id) queues)

-- the groups of a trigger id that have a pinned chunk, and none where it is not declared
abbrev pub groups_of : {L : Type 0} → Queues L → TriggerId → Groups L
groups_of queues id = unwrap_or (lookup (same_id id) queues) []

-- how many chunks are pinned
abbrev pub total_of : {L : Type 0} → Queues L → ℕ
total_of queues = sum_by (λ groups. count_of groups) (values_of queues)

-- the queues where a trigger id has these groups
abbrev pub with_groups : {L : Type 0} → Queues L → TriggerId → Groups L → Queues L
with_groups queues id groups = set_value (same_id id) queues groups

-- the queues where chunks became pinned for the group of this trigger id and priority
abbrev pub pinned_in : {L : Type 0} → Queues L → TriggerId → Priority → List (Buffer L) → Queues L
pinned_in queues id priority chunks = with_groups queues id (pinned (groups_of queues id) priority chunks)

-- the declared ids, for which nothing is pinned
abbrev pub fresh_queues : {L : Type 0} → List TriggerRule → Queues L
fresh_queues rules = map (λ rule. (rule.id, [])) rules

-- how many chunks are pinned for a trigger id
abbrev pub count_in : {L : Type 0} → Queues L → TriggerId → ℕ
count_in queues id = count_of (groups_of queues id)

-- Something is pinned for the id, and less for each other id, or as much and that id is no smaller.
pub record IsFullest {L : Type 0} (queues : Queues L) (id : TriggerId) : Type 0 where
  pub some : 0 < count_in queues id
  pub most : (other : TriggerId) → (count_in queues other < count_in queues id) ⊎ ((count_in queues other ≡ count_in queues id) × (id.0 ≤ other.0))
