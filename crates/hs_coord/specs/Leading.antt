-- What one message does to its group's entry, which the group's first message makes, and what it leads to.
use Rattle.std.specs.Prelude.{◌≡◌, ℕ, false, not, ◌&&◌, ◌||◌, ◌==◌, List, Some, unwrap_or, if◌then◌else◌}
use Rattle.std.specs.List.{IsDistinct}
use Rattle.std.specs.Map.{lookup, keys_of}
use Rattle.indexmap.specs.IndexMap.{insert_entry}
use Rattle.hs_base.specs.declared.ids.GroupId.{GroupId}
use Rattle.hs_base.specs.declared.node_set.NodeSet.{NodeSet}
use Rattle.hs_base.specs.NodeSets.{has_node}
use Rattle.hs_coord.specs.declared.asks.Led.{Led}
use Rattle.hs_coord.specs.declared.followed.Followed.{Followed}
use Rattle.hs_coord.specs.Following.{Message, same_group, is_answer}
use Rattle.hs_coord.specs.Kept.{is_open}

-- an entry before the first message of its group
pub record Begins (m : Message) (entry : Followed) : Type 0 where
  pub group : entry.ask.group ≡ m.told.group
  pub laterals : entry.ask.laterals ≡ m.told.laterals
  pub asked : (n : ℕ) → has_node entry.asked n ≡ (n == m.node.0)
  pub waiting : (n : ℕ) → has_node entry.waiting n ≡ false

-- an entry before and after a message, which leads to the fresh nodes
pub record Takes (m : Message) (entry next : Followed) (fresh : NodeSet) : Type 0 where
  pub fresh_is : (n : ℕ) → has_node fresh n ≡ (has_node m.told.crumbs n && not (has_node entry.asked n))
  pub asked : (n : ℕ) → has_node next.asked n ≡ (has_node entry.asked n || has_node m.told.crumbs n)
  pub waiting : (n : ℕ) → has_node next.waiting n ≡ ((has_node entry.waiting n && not (n == m.node.0 && is_answer m.told.why)) || has_node fresh n)
  pub ask : next.ask ≡ entry.ask

-- what the map has after the entry of one group was written
abbrev pub Writes : List (GroupId × Followed) → List (GroupId × Followed) → GroupId → Followed → Type 0
Writes old new group next = (q : GroupId) → lookup (same_group q) new ≡ if same_group group q then Some next else lookup (same_group q) old

-- the group's entry before the message, where it has one
abbrev pub entry_before : List (GroupId × Followed) → Message → Followed → Followed
entry_before old m begun = unwrap_or (lookup (same_group m.told.group.id) old) begun

-- the message was taken into its group's entry
pub record Leads (old new : List (GroupId × Followed)) (m : Message) (led : Led) : Type 0 where
  pub begun : Followed
  pub begins : Begins m begun
  pub next : Followed
  pub takes : Takes m (entry_before old m begun) next led.asks.to
  pub ask : led.asks.ask ≡ next.ask
  pub was : led.was_open ≡ is_open (entry_before old m begun)
  pub is : led.is_open ≡ is_open next
  pub entries : new ≡ insert_entry same_group old m.told.group.id next
  pub writes : Writes old new m.told.group.id next
  pub distinct : IsDistinct same_group (keys_of new)
