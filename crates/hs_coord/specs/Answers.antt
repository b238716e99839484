-- What the coordinator answers when it is asked for a group's asked set.
use Rattle.std.specs.Prelude.{◌≡◌, ℕ, Option, Some, None, find, IsSome}
use Rattle.hs_base.specs.declared.ids.GroupId.{GroupId}
use Rattle.hs_base.specs.declared.node_set.NodeSet.{NodeSet}
use Rattle.hs_base.specs.NodeSets.{has_node}
use Rattle.hs_coord.specs.Following.{Messages, is_of, is_asked}

-- `None` exactly where no message is of the group, and else the group's asked set
abbrev pub IsAskedSet : GroupId → Messages → Option NodeSet → Type 0
IsAskedSet group messages None = find (is_of group) messages ≡ None
IsAskedSet group messages (Some set) = IsSome (find (is_of group) messages) × ((node : ℕ) → has_node set node ≡ is_asked group messages node)
