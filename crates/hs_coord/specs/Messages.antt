-- The messages that nodes tell the coordinator, which takes them one at a time. A message is told by a node and speaks of one
-- group, which its id names: the node that admitted the group's trigger, and the trigger's number there.
use Rattle.std.specs.Prelude.{◌≡◌, ℕ, ◌+◌, Bool, true, false, ◌&&◌, ◌==◌, List, [], ◌∷◌, filter, refl}
use Rattle.hs_base.specs.declared.ids.NodeId.{NodeId}
use Rattle.hs_base.specs.declared.ids.GroupId.{GroupId}
use Rattle.hs_base.specs.declared.told.Told.{Told}
use Rattle.hs_base.specs.declared.told.Why.{Why}
use Rattle.hs_base.specs.declared.told.Why.TheVariants.{Fired}

-- a message: the node that told it, and what it told
pub record Message : Type 0 where
  pub node : NodeId
  pub told : Told

abbrev pub Messages : Type 0
Messages = List Message

abbrev pub message : NodeId → Told → Message
message node told = record { node = node; told = told }

-- whether two ids name one group
abbrev pub same_group : GroupId → GroupId → Bool
same_group a b = a.node == b.node && a.number == b.number

-- whether a message is of the group
abbrev pub is_of : GroupId → Message → Bool
is_of group m = same_group group m.told.group.id

-- For the worked examples: messages of one group of four nodes, that node 0 admitted. A set of the one node n is the number 2 ^ n.
abbrev pub sample_group : GroupId
sample_group = record { node = 0; number = 7 }

abbrev pub sample : ℕ → ℕ → Why → Message
sample node crumbs why = record {
  node = record { 0 = node };
  told = record {
    group = record { id = record { node = 0; number = 7 }; trigger = record { 0 = 1 }; lead = record { 0 = 100 + node } };
    laterals = record { 0 = 200 + node } ∷ [];
    crumbs = record { 0 = crumbs };
    why = why;
  };
}

-- which of the four nodes pass a test
abbrev pub nodes_where : (ℕ → Bool) → List ℕ
nodes_where test = filter test (0 ∷ 1 ∷ 2 ∷ 3 ∷ [])

the_group_is_node_0s : (is_of sample_group (sample 3 0 Fired) ≡ true) × (is_of (record { node = 3; number = 7 }) (sample 3 0 Fired) ≡ false)
the_group_is_node_0s = (refl, refl)
