-- When messages are orderly, and which sets of nodes are closed under them. A node has nothing to say of a group until it admits
-- the group's trigger or is asked. If every node keeps to that, the group's messages are orderly. A set of nodes is closed under
-- them where the admitting node is in it, and with a node also the nodes that its messages name: whoever walks along the crumbs
-- never leaves such a set.
use Rattle.std.specs.Prelude.{◌≡◌, ℕ, Bool, true, false, ◌==◌, [], ◌∷◌, ◌++◌, find, All, refl}
use Rattle.std.specs.Option.{option_map_or}
use Rattle.hs_base.specs.declared.ids.GroupId.{GroupId}
use Rattle.hs_base.specs.declared.told.Why.TheVariants.{Fired, Answer}
use Rattle.hs_base.specs.NodeSets.{has_node}
use Rattle.hs_coord.specs.Messages.{sample, sample_group}
use Rattle.hs_coord.specs.Following.{Message, Messages, is_of, is_asked}

-- Whether a message of the group comes from a node that may speak of it: the node that admitted it, where no message before was
-- of the group, and else a node in the group's asked set by the messages before.
abbrev pub is_known_sender : GroupId → Messages → Message → Bool
is_known_sender group before m =
    option_map_or (λ (first : Message). is_asked group before m.node.0) (find (is_of group) before) (m.node.0 == group.node)

-- each message of the group comes from a known sender
abbrev pub IsOrderly : GroupId → Messages → Type 0
IsOrderly group messages =
    (before later : Messages) (m : Message) → messages ≡ before ++ m ∷ later → is_of group m ≡ true → is_known_sender group before m ≡ true

-- A set that no crumb leads out of: the node that admitted the group is in it, and wherever a message of the group came from
-- a node of the set, so are the nodes of its crumbs.
pub record IsClosed (group : GroupId) (messages : Messages) (set : ℕ → Bool) : Type 0 where
  pub admitting : set group.node ≡ true
  pub crumbs : All (λ (m : Message). is_of group m ≡ true → set m.node.0 ≡ true → (node : ℕ) → has_node m.told.crumbs node ≡ true → set node ≡ true) messages

-- node 0 admitted the group, so it tells the first message, and node 1 does not
the_admitting_node_is_first : (is_known_sender sample_group [] (sample 0 2 Fired) ≡ true) × (is_known_sender sample_group [] (sample 1 0 Fired) ≡ false)
the_admitting_node_is_first = (refl, refl)

-- node 1 speaks once a crumb leads to it, and node 3 does not
an_asked_node_is_next : (is_known_sender sample_group (sample 0 2 Fired ∷ []) (sample 1 4 Answer) ≡ true) × (is_known_sender sample_group (sample 0 2 Fired ∷ []) (sample 3 4 Answer) ≡ false)
an_asked_node_is_next = (refl, refl)
