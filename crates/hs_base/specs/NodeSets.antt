-- A set of nodes is a number whose bit n says whether node n is in it. So each set is known by its nodes, and each
-- operation by what it does to them.
use Rattle.std.specs.Prelude.{◌≡◌, ℕ, ◌-◌, ◌^◌, Bool, true, false, ◌==◌, List, [], ◌∷◌, filter, bit_and, bit_or, refl}
use Rattle.std.specs.Int.{bit_at}
use Rattle.std.specs.List.{range_with_len}
use Rattle.hs_base.specs.declared.ids.NodeId.{NodeId}
use Rattle.hs_base.specs.declared.node_set.NodeSet.{NodeSet}
use Rattle.hs_base.specs.declared.limits.TheConstants.{MOST_NODES}

-- whether a node is in the set
abbrev pub has_node : NodeSet → ℕ → Bool
has_node s n = bit_at s.0 n == 1

-- the nodes of a set, rising
unfoldable pub nodes_of : NodeSet → List ℕ
nodes_of s = filter (has_node s) (range_with_len 0 MOST_NODES)

abbrev pub no_nodes : NodeSet
no_nodes = record { 0 = 0 }

abbrev pub one_node : NodeId → NodeSet
one_node node = record { 0 = 2 ^ node.0 }

-- the nodes of either set
abbrev pub either : NodeSet → NodeSet → NodeSet
either a b = record { 0 = bit_or a.0 b.0 }

-- the nodes of a set that are not in another
abbrev pub without : NodeSet → NodeSet → NodeSet
without a b = record { 0 = bit_and a.0 (2 ^ 128 - 1 - b.0) }

-- a set with a node added
abbrev pub with_node : NodeSet → NodeId → NodeSet
with_node s node = either s (one_node node)

abbrev set : ℕ → NodeSet
set number = record { 0 = number }

-- Nodes 0 and 2 make the number 5.
nodes_of_five : (nodes_of (set 5) ≡ 0 ∷ 2 ∷ []) × (has_node (set 5) 2 ≡ true) × (has_node (set 5) 1 ≡ false)
unfolding nodes_of
nodes_of_five = (refl, refl, refl)

operations : (with_node (set 5) (record { 0 = 1 }) ≡ set 7) × (either (set 5) (set 6) ≡ set 7) × (without (set 5) (set 6) ≡ set 1)
operations = (refl, refl, refl)
