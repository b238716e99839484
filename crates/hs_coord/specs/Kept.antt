-- What the coordinator keeps in place of the messages that it has taken: the nodes that told them, in order, and of each
-- group one entry with its first message's ask, its asked set, and the nodes whose ask waits for its answer.
use Rattle.std.specs.Prelude.{◌≡◌, ℕ, Bool, not, ◌&&◌, ◌==◌, List, Option, Some, None, find, map, count_by}
use Rattle.std.specs.List.{IsDistinct}
use Rattle.std.specs.Map.{lookup, keys_of}
use Rattle.hs_base.specs.declared.ids.NodeId.{NodeId}
use Rattle.hs_base.specs.declared.ids.GroupId.{GroupId}
use Rattle.hs_base.specs.NodeSets.{has_node}
use Rattle.hs_coord.specs.declared.followed.Followed.{Followed}
use Rattle.hs_coord.specs.Following.{Message, Messages, same_group, is_of, is_asked, has_ask, is_answered}

pub record PlainCoordinator : Type 0 where
  pub nodes : ℕ
  pub log : List NodeId
  pub groups : List (GroupId × Followed)

-- An entry stands for what the messages say of its group.
pub record IsFollowed (group : GroupId) (messages : Messages) (entry : Followed) : Type 0 where
  pub first : Message
  pub is_first : find (is_of group) messages ≡ Some first
  pub group_is : entry.ask.group ≡ first.told.group
  pub laterals_are : entry.ask.laterals ≡ first.told.laterals
  pub asked : (node : ℕ) → has_node entry.asked node ≡ is_asked group messages node
  pub waiting : (node : ℕ) → has_node entry.waiting node ≡ (has_ask group messages node && not (is_answered group messages node))

-- A group has an entry exactly where one of the messages is of it, and then the entry stands for them.
abbrev pub StandsFor : GroupId → Messages → Option Followed → Type 0
StandsFor group messages None = find (is_of group) messages ≡ None
StandsFor group messages (Some entry) = IsFollowed group messages entry

-- These are the messages that a coordinator has taken, in their order.
pub record HasTaken (kept : PlainCoordinator) (messages : Messages) : Type 0 where
  pub log : kept.log ≡ map (λ (m : Message). m.node) messages
  pub groups : (group : GroupId) → StandsFor group messages (lookup (same_group group) kept.groups)

-- whether an ask of an entry's group waits for its answer
abbrev pub is_open : Followed → Bool
is_open entry = not (entry.waiting.0 == 0)

-- how many groups have such an ask
abbrev pub count_open : List (GroupId × Followed) → ℕ
count_open groups = count_by (λ p. is_open p.1) groups

-- the number of the groups with such an ask, and each group once
pub record IsCounted (waiting : ℕ) (groups : List (GroupId × Followed)) : Type 0 where
  pub count : waiting ≡ count_open groups
  pub distinct : IsDistinct same_group (keys_of groups)
