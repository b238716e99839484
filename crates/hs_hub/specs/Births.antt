-- From which pass on the latest life of each node is sure. A life may have had another before it whose records are lost and of which no
-- sign is left: so a node speaks for a trace only where the trace's first message came when the node's latest life was sure.
use Rattle.std.specs.Prelude.{◌≡◌, ℕ, ◌-◌, ◌^◌, Bool, true, false, not, ◌||◌, List, [], ◌∷◌, replicate, nat_le, slice_get, slice_set, if◌then◌else◌, refl}
use Rattle.std.specs.List.{list_all}
use Rattle.std.specs.Option.{option_map_or}
use Rattle.hs_base.specs.declared.ids.NodeId.{NodeId}
use Rattle.hs_base.specs.declared.ids.TraceId.{TraceId}
use Rattle.hs_base.specs.declared.node_set.NodeSet.{NodeSet}
use Rattle.hs_base.specs.NodeSets.{nodes_of}
use Rattle.hs_groups.specs.declared.answers.LifeHeard.{LifeHeard}
use Rattle.hs_groups.specs.declared.answers.LifeHeard.TheVariants as hearing
use Rattle.hs_groups.specs.declared.followed_group.FollowedGroup.{FollowedGroup}
use Rattle.hs_verdict.specs.Verdict.{claims}

-- the pass that never comes
abbrev pub never : ℕ
never = 2 ^ 64 - 1

-- before a life of a node was heard: nobody is sure, but in a fresh hub the first life of each is from the start
abbrev pub no_births : (nodes : ℕ) → Bool → List ℕ
no_births nodes is_fresh = replicate nodes (if is_fresh then 0 else never)

-- a life that is newer than all that were heard of its node is sure from this pass on
abbrev pub with_birth : LifeHeard → NodeId → ℕ → List ℕ → List ℕ
with_birth hearing.Newer node birth births = slice_set births node.0 birth
with_birth hearing.Known node birth births = births
with_birth hearing.Refused node birth births = births

-- whether the latest life of a node was sure in this pass
abbrev pub is_sure : List ℕ → ℕ → ℕ → Bool
is_sure births since node = option_map_or (λ birth. nat_le birth since) (slice_get births node) false

abbrev pub are_nodes_sure : List ℕ → ℕ → NodeSet → Bool
are_nodes_sure births since nodes = list_all (is_sure births since) (nodes_of nodes)

-- whether a group does not claim the trace, or each node that it reached was sure
abbrev pub is_group_sure : List ℕ → ℕ → TraceId → FollowedGroup → Bool
is_group_sure births since trace followed = not (claims trace followed) || are_nodes_sure births since followed.asked

abbrev pub are_sure : List ℕ → ℕ → TraceId → List FollowedGroup → Bool
are_sure births since trace groups = list_all (is_group_sure births since trace) groups

-- ---- worked examples: node 0 is sure from the start, node 1 from pass 30 on, and there is no node 2

abbrev two : List ℕ
two = 0 ∷ 30 ∷ []

sure : (is_sure two 29 0 ≡ true) × (is_sure two 29 1 ≡ false) × (is_sure two 30 1 ≡ true) × (is_sure two 99 2 ≡ false)
sure = (refl, refl, refl, refl)

renewed : (with_birth hearing.Newer (record { 0 = 0 }) 47 two ≡ 47 ∷ 30 ∷ []) × (with_birth hearing.Known (record { 0 = 0 }) 47 two ≡ two)
renewed = (refl, refl)
