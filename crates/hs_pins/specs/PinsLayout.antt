-- How pins keep what a node remembers. A bucket stands for the triggers of its id, and each trigger id has a queue of the
-- groups for which a chunk is pinned. What is kept says what is remembered, up to how the chunks of different groups and the
-- triggers of different ids lie between each other.
use Rattle.std.specs.Prelude.{◌≡◌, ℕ, List, [], ◌∷◌, ◌++◌, map, filter, length, Option, Some, None, is_some, if◌then◌else◌}
use Rattle.std.specs.List.{list_any}
use Rattle.std.specs.List.Sorted.{IsStrictlySortedBy}
use Rattle.std.specs.Map.{lookup, set_value, keys_of}
use Rattle.hs_base.specs.declared.ids.TriggerId.{TriggerId}
use Rattle.hs_base.specs.declared.settings.TriggerRule.{TriggerRule}
use Rattle.hs_base.specs.declared.told.Group.{Group}
use Rattle.hs_base.specs.Rules.{is_declared}
use Rattle.hs_words.specs.Buffers.{Buffer}
use Rattle.hs_pins.specs.declared.priority.Priority.{Priority}
use Rattle.hs_pins.specs.declared.priority.Mark.{Mark}
use Rattle.hs_pins.specs.Priorities.{priority_cmp, priority_of, same_priority, group_at, mark_of, same_mark}
use Rattle.hs_pins.specs.declared.bucket.Attempt.{Attempt}
use Rattle.hs_pins.specs.Buckets.{BucketState, HasAttempted, attempted, fresh_bucket}
use Rattle.hs_pins.specs.Counting.{HaveChunks}
use Rattle.hs_pins.specs.Groups.{Groups, count_of, chunks_of}
use Rattle.hs_pins.specs.Queues.{Queues, same_id, total_of}
use Rattle.hs_pins.specs.Queues as lanes
use Rattle.hs_pins.specs.Remembered.{Claim, Pin, Remembered, IsSound, pin_for, pins_for, pins_under, without_group, rule_of, moments_of, is_abandoned}
use Rattle.hs_pins.specs.Abandoning.{groups_of, next_to_go}
use Rattle.hs_pins.specs.Waiting.{order_of}

abbrev pub Buckets : Type 0
Buckets = List (TriggerId × BucketState)

pub record Pinning (L : Type 0) : Type 0 where
  pub node : ℕ
  pub most : ℕ
  pub admitted : ℕ
  pub claims : List Claim
  pub buckets : Buckets
  pub queues : Queues L
  pub abandoned : List Mark

-- the bucket of a trigger id
abbrev pub bucket_in : Buckets → TriggerId → Option BucketState
bucket_in buckets id = lookup (same_id id) buckets

-- the full bucket of each declared id
abbrev pub fresh_buckets_of : List TriggerRule → Buckets
fresh_buckets_of rules = map (λ rule. (rule.id, fresh_bucket rule.burst rule.rate)) rules

-- a bucket has taken one more attempt, and has the burst and the rate that it had
pub record Takes (old new : BucketState) (moment : ℕ) : Type 0 where
  pub burst : new.burst ≡ old.burst
  pub rate : new.rate ≡ old.rate
  pub taken : (earlier : List ℕ) → HasAttempted old earlier → HasAttempted new (moment ∷ earlier)

-- An attempt at a moment was answered by the bucket of the id, over all earlier attempts at it; other buckets stay.
pub record Attempts (old new : Buckets) (id : TriggerId) (moment : ℕ) (answer : Attempt) : Type 0 where
  pub before : BucketState
  pub after : BucketState
  pub had : bucket_in old id ≡ Some before
  pub answers : (earlier : List ℕ) → HasAttempted before earlier → answer ≡ attempted before.burst before.rate earlier moment
  pub takes : Takes before after moment
  pub has : new ≡ set_value (same_id id) old after

-- a bucket by this rule that has taken these attempts
pub record HasTaken (rule : TriggerRule) (bucket : BucketState) (moments : List ℕ) : Type 0 where
  pub burst : bucket.burst ≡ rule.burst
  pub rate : bucket.rate ≡ rule.rate
  pub attempts : HasAttempted bucket moments

-- There is a bucket where there is a rule.
abbrev pub MatchBucket : Option TriggerRule → Option BucketState → List ℕ → Type 0
MatchBucket None None moments = Unit {0}
MatchBucket None (Some bucket) moments = ⊥
MatchBucket (Some rule) None moments = ⊥
MatchBucket (Some rule) (Some bucket) moments = HasTaken rule bucket moments

-- the chunks that are pinned for groups of this priority
abbrev pub chunks_at : {L : Type 0} → Priority → List (Pin L) → List (Buffer L)
chunks_at priority pins = map (λ pin. pin.chunk) (filter (λ pin. same_priority priority (priority_of pin.group)) pins)

-- what waits for a trigger id with these groups: the groups by falling priority, each with its chunks in order
abbrev pub in_order : {L : Type 0} → TriggerId → Groups L → List (Pin L)
in_order id [] = []
in_order id (lane ∷ groups) = in_order id groups ++ map (pin_for (group_at id lane.0)) lane.1

-- what waits for a trigger id
abbrev pub waiting : {L : Type 0} → Pinning L → TriggerId → List (Pin L)
waiting pins id = in_order id (lanes.groups_of pins.queues id)

-- what is kept of the chunks that are pinned for one trigger id
pub record HasLanes {L : Type 0} (groups : Groups L) (pins : List (Pin L)) : Type 0 where
  pub rising : IsStrictlySortedBy priority_cmp (keys_of groups)
  pub some : HaveChunks groups
  pub lanes : (priority : Priority) → chunks_of groups priority ≡ chunks_at priority pins
  pub count : count_of groups ≡ length pins

-- what is kept of all pinned chunks, with these declared ids
pub record HasQueues {L : Type 0} (queues : Queues L) (rules : List TriggerRule) (pinned : List (Pin L)) : Type 0 where
  pub declared : (id : TriggerId) → is_some (lookup (same_id id) queues) ≡ is_declared rules id
  pub lanes : (id : TriggerId) → HasLanes (lanes.groups_of queues id) (pins_under id pinned)
  pub total : total_of queues ≡ length pinned

-- ---- abandoned groups

-- with one mark more, if it is not there
abbrev pub with_mark : List Mark → Mark → List Mark
with_mark marks mark = if list_any (same_mark mark) marks then marks else marks ++ mark ∷ []

abbrev pub HasMarks : List Mark → List Group → Type 0
HasMarks marks groups = (group : Group) → list_any (same_mark (mark_of group)) marks ≡ is_abandoned groups group

-- what is kept of the pinned chunks and of the abandoned groups
pub record HasPinned {L : Type 0} (queues : Queues L) (marks : List Mark) (memory : Remembered L) : Type 0 where
  pub chunks : HasQueues queues memory.rules memory.pinned
  pub groups : HasMarks marks memory.abandoned

-- a group was abandoned
abbrev pub abandoned_one : {L : Type 0} → Remembered L → Group → Remembered L
abandoned_one memory group = record memory { pinned = without_group group memory.pinned; abandoned = memory.abandoned ++ group ∷ [] }

-- The group that is next to go went, and what was pinned for it joined what was dropped.
pub record GroupGoes {L : Type 0} (memory : Remembered L) (queues : Queues L) (marks : List Mark) (dropped_before dropped_after : List (Pin L)) : Type 0 where
  pub group : Group
  pub next : next_to_go (groups_of memory.pinned) ≡ Some group
  pub kept : HasPinned queues marks (abandoned_one memory group)
  pub drops : dropped_after ≡ dropped_before ++ pins_for group memory.pinned

-- ---- all of it

-- These pins are those of a node that remembers this.
pub record Remembers {L : Type 0} (pins : Pinning L) (memory : Remembered L) : Type 0 where
  pub sound : IsSound memory
  pub node : pins.node ≡ memory.node
  pub most : pins.most ≡ memory.most
  pub admitted : pins.admitted ≡ memory.admitted
  pub claims : pins.claims ≡ memory.claims
  pub buckets : (id : TriggerId) → MatchBucket (rule_of memory.rules id) (bucket_in pins.buckets id) (moments_of id memory.tried)
  pub pinned : HasPinned pins.queues pins.abandoned memory
  -- what waits for an id is what is pinned for it, in its order
  pub waits : (id : TriggerId) → waiting pins id ≡ order_of memory.pinned id

-- A node with these pins remembers something of which this holds.
abbrev pub KnowsThat : {L : Type 0} → Pinning L → (Remembered L → Type 0) → Type 0
KnowsThat {L} pins fact = (memory : Remembered L) × Remembers pins memory × fact memory
