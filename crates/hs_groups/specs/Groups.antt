-- The groups that are followed, and the latest life that was heard of each node. A message joins its group, or begins it; where as
-- many are followed as may be, the oldest is forgotten if it is settled.
use Rattle.std.specs.Prelude.{◌≡◌, ◌⊎◌, ℕ, ◌-◌, ◌<◌, ◌^◌, Bool, true, false, not, replicate, ◌&&◌, ◌==◌, List, [], ◌∷◌, ◌++◌, length, map, find, position, drop, slice_get, slice_set, slice_index, nat_lt, nat_le, Option, Some, None, is_some, option_map, if◌then◌else◌, refl}
use Rattle.std.specs.Option.{option_map_or, option_and_then}
use Rattle.hs_base.specs.declared.ids.NodeId.{NodeId}
use Rattle.hs_base.specs.declared.ids.GroupId.{GroupId}
use Rattle.hs_base.specs.declared.told.Ask.{Ask}
use Rattle.hs_base.specs.declared.told.Told.{Told}
use Rattle.hs_base.specs.declared.told.Why.TheVariants.{Fired, Answer}
use Rattle.hs_base.specs.declared.node_set.NodeSet.{NodeSet}
use Rattle.hs_base.specs.declared.limits.TheConstants.{MOST_NODES}
use Rattle.hs_base.specs.NodeSets.{nodes_of, without}
use Rattle.hs_groups.specs.declared.answers.GroupLimits.{GroupLimits}
use Rattle.hs_groups.specs.declared.answers.ToldOutcome as answers
use Rattle.hs_groups.specs.declared.answers.ToldOutcome.TheVariants.{Taken, Refused, Full}
use Rattle.hs_groups.specs.declared.answers.LifeHeard.{LifeHeard}
use Rattle.hs_groups.specs.declared.answers.LifeHeard.TheVariants as hearing
use Rattle.hs_groups.specs.declared.followed_group.FollowedGroup.{FollowedGroup}
use Rattle.hs_groups.specs.Following.{same_group, answer_of, begun, taken, is_settled, renewed, has_unsent, ask_of, sent_to, asked_again, told_of, n}

-- the groups, the oldest one first, and the latest epoch of each node, 0 where none was heard
pub record PlainGroups : Type 0 where
  pub limits : GroupLimits
  pub epochs : List ℕ
  pub groups : List FollowedGroup

-- a limit is out of its range
abbrev pub AreOut : GroupLimits → Type 0
AreOut limits = (limits.groups ≡ 0) ⊎ (MOST_NODES < limits.nodes)

abbrev pub no_groups : GroupLimits → PlainGroups
no_groups limits = record { limits = limits; epochs = replicate limits.nodes 0; groups = [] }

-- ---- nodes and their lives

-- the nodes below this
abbrev pub first_nodes : ℕ → NodeSet
first_nodes nodes = record { 0 = 2 ^ nodes - 1 }

-- whether each of these nodes is below the number of nodes
abbrev pub are_known : PlainGroups → NodeSet → Bool
are_known s crumbs = (without crumbs (first_nodes s.limits.nodes)).0 == 0

-- whether a node is there, and each to which its crumbs lead
abbrev pub is_known : PlainGroups → NodeId → NodeSet → Bool
is_known s node crumbs = nat_lt node.0 s.limits.nodes && are_known s crumbs

-- 0 where none was heard
abbrev pub latest_of : PlainGroups → NodeId → ℕ
latest_of s node = slice_index s.epochs node.0

abbrev pub answer_of_hear : PlainGroups → NodeId → ℕ → LifeHeard
answer_of_hear s node epoch =
    if nat_le s.limits.nodes node.0 then hearing.Refused
    else if nat_lt (latest_of s node) epoch then hearing.Newer
    else hearing.Known

-- a newer life is the latest from now on, and its node is asked again for what it has not answered
abbrev pub heard : PlainGroups → NodeId → ℕ → PlainGroups
heard s node epoch =
    if nat_le s.limits.nodes node.0 then s
    else if nat_lt (latest_of s node) epoch then record s { epochs = slice_set s.epochs node.0 epoch; groups = map (renewed node) s.groups }
    else s

-- ---- a node tells of a group

abbrev pub is_of : GroupId → FollowedGroup → Bool
is_of group followed = same_group group followed.ask.group.id

abbrev pub group_of : PlainGroups → GroupId → Option FollowedGroup
group_of s group = find (is_of group) s.groups

-- whether the oldest group is not settled
abbrev pub is_oldest_open : PlainGroups → Bool
is_oldest_open s = option_map_or (λ followed. not (is_settled followed s.limits.tries)) (slice_get s.groups 0) false

-- whether a message of the group begins it where as many are followed as may be and the oldest is not settled
abbrev pub is_full : PlainGroups → GroupId → Bool
is_full s group = not (is_some (group_of s group)) && (nat_le s.limits.groups (length s.groups) && is_oldest_open s)

-- these groups with the one at this place changed so
abbrev pub changed_at : (FollowedGroup → FollowedGroup) → List FollowedGroup → ℕ → List FollowedGroup
changed_at change groups place = option_map_or (λ followed. slice_set groups place (change followed)) (slice_get groups place) groups

-- where as many groups are followed as may be, the oldest goes
abbrev pub with_room : PlainGroups → List FollowedGroup
with_room s = if nat_le s.limits.groups (length s.groups) then drop 1 s.groups else s.groups

-- a message that answers the asks of these nodes begins its group
abbrev pub begins : PlainGroups → NodeId → NodeSet → Told → PlainGroups
begins s node answered told = record s { groups = with_room s ++ taken (begun node told) answered told ∷ [] }

-- it joins its group, or begins it
abbrev pub followed_by : PlainGroups → NodeId → NodeSet → Told → PlainGroups
followed_by s node answered told =
    option_map_or (λ place. record s { groups = changed_at (λ followed. taken followed answered told) s.groups place }) (position (is_of told.group.id) s.groups)
    (begins s node answered told)

abbrev pub answer_to : PlainGroups → NodeId → ℕ → Told → answers.ToldOutcome
answer_to s node epoch told =
    if is_known s node told.crumbs then (if is_full s told.group.id then Full else Taken (answer_of_hear s node epoch))
    else Refused

abbrev pub after_told : PlainGroups → NodeId → ℕ → Told → PlainGroups
after_told s node epoch told =
    if is_known s node told.crumbs && not (is_full s told.group.id) then heard (followed_by s node (answer_of told.why (latest_of s node) epoch node) told) node epoch
    else s

-- ---- asks are sent, and sent again

-- the node and the ask that is to be sent next: the first of the oldest group that has one
abbrev pub next_ask : PlainGroups → Option (NodeId × Ask)
next_ask s = option_and_then ask_of (find has_unsent s.groups)

abbrev pub after_sent : PlainGroups → NodeId → GroupId → ℕ → PlainGroups
after_sent s node group now =
    option_map_or (λ place. record s { groups = changed_at (sent_to node now) s.groups place }) (position (is_of group) s.groups) s

abbrev pub after_pass : PlainGroups → (now wait : ℕ) → PlainGroups
after_pass s now wait = record s { groups = map (asked_again now wait s.limits.tries) s.groups }

-- ---- worked examples: four nodes, and one group at a time

abbrev few : PlainGroups
few = no_groups (record { nodes = 4; groups = 1; tries = 2 })

-- node 0 tells of its group 7 with a crumb to node 1
abbrev one : PlainGroups
one = after_told few (n 0) 5 (told_of 7 2 Fired)

heard_of : (latest_of one (n 0) ≡ 5) × (latest_of one (n 1) ≡ 0) × (answer_to few (n 0) 5 (told_of 7 2 Fired) ≡ Taken hearing.Newer)
heard_of = (refl, refl, refl)

-- there is no node 4
no_such_node : (answer_to few (n 4) 5 (told_of 7 2 Fired) ≡ Refused) × (answer_to few (n 0) 5 (told_of 7 16 Fired) ≡ Refused)
no_such_node = (refl, refl)

-- node 1 is asked, and then nobody
asks_node_1 : (option_map (λ (ask : NodeId × Ask). ask.0) (next_ask one) ≡ Some (n 1)) × (next_ask (after_sent one (n 1) (record { node = 0; number = 7 }) 10) ≡ None)
unfolding nodes_of
asks_node_1 = (refl, refl)

-- a second group has to wait, until node 1 answered for the first one
has_to_wait : (answer_to one (n 0) 5 (told_of 8 0 Fired) ≡ Full) × (is_full (after_told one (n 1) 3 (told_of 7 0 Answer)) (record { node = 0; number = 8 }) ≡ false)
has_to_wait = (refl, refl)

-- an answer of a life before the latest leaves it open
open_still : is_full (after_told (heard one (n 1) 9) (n 1) 3 (told_of 7 0 Answer)) (record { node = 0; number = 8 }) ≡ true
open_still = refl
