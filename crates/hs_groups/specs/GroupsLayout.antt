-- How the groups that are followed lie in places that are taken once, with the epochs and the set of all nodes beside them.
use Rattle.std.specs.Prelude.{◌≡◌, ◌<◌, ◌≤◌, length}
use Rattle.std.specs.VecDeque.{deque_capacity}
use Rattle.hs_base.specs.declared.limits.TheConstants.{MOST_NODES}
use Rattle.hs_groups.specs.declared.groups.Groups.TheInside.{Inside}
use Rattle.hs_groups.specs.Groups.{PlainGroups, first_nodes}

abbrev pub groups_in : Inside → PlainGroups
groups_in a = record { limits = a.limits; epochs = a.epochs.items; groups = a.groups.items }

pub record IsKept (a : Inside) : Type 0 where
  pub nodes : a.limits.nodes ≤ MOST_NODES
  pub all : a.all ≡ first_nodes a.limits.nodes
  pub epochs : length a.epochs.items ≡ a.limits.nodes
  pub some : 0 < a.limits.groups
  pub few : length a.groups.items ≤ a.limits.groups
  pub room : a.limits.groups ≤ deque_capacity a.groups
