-- One group, as it is followed: its first message's ask, the nodes that it reached, those whose ask has no answer yet, and those whose
-- ask is still to be sent. A node that a crumb reaches is asked once; once more where a newer life of it is heard before it answered,
-- and so often as the limit says where it does not answer. An ask is settled by an answer of the latest life of its node that was
-- heard, and by no other.
use Rattle.std.specs.Prelude.{◌≡◌, ℕ, ◌+◌, ◌-◌, Bool, true, false, not, ◌&&◌, ◌||◌, ◌==◌, [], nat_lt, nat_le, slice_get, Option, Some, option_map, if◌then◌else◌, refl}
use Rattle.hs_base.specs.declared.ids.NodeId.{NodeId}
use Rattle.hs_base.specs.declared.ids.GroupId.{GroupId}
use Rattle.hs_base.specs.declared.told.Ask.{Ask}
use Rattle.hs_base.specs.declared.told.Told.{Told}
use Rattle.hs_base.specs.declared.told.Why.{Why}
use Rattle.hs_base.specs.declared.told.Why.TheVariants.{Fired, Answer, Late}
use Rattle.hs_base.specs.declared.node_set.NodeSet.{NodeSet}
use Rattle.hs_base.specs.declared.limits.TheConstants.{MOST_NODES}
use Rattle.hs_base.specs.NodeSets.{has_node, nodes_of, either, without, one_node, no_nodes, with_node}
use Rattle.hs_groups.specs.declared.followed_group.FollowedGroup.{FollowedGroup}

-- whether two ids name one group
abbrev pub same_group : GroupId → GroupId → Bool
same_group a b = a.node == b.node && a.number == b.number

abbrev pub is_answer : Why → Bool
is_answer Fired = false
is_answer Answer = true
is_answer Late = false

-- the nodes whose ask a message answers, where this epoch is the latest that was heard of its node
abbrev pub answer_of : Why → ℕ → ℕ → NodeId → NodeSet
answer_of why latest epoch node = if is_answer why && nat_le latest epoch then one_node node else no_nodes

-- a group whose first message a node is about to tell
abbrev pub begun : NodeId → Told → FollowedGroup
begun node told = record {
  ask = record { group = told.group; laterals = told.laterals };
  asked = one_node node;
  waiting = no_nodes;
  unsent = no_nodes;
  tries = 0;
  since = 0;
}

-- the nodes that a message's crumbs reach first
abbrev pub fresh_nodes : FollowedGroup → Told → NodeSet
fresh_nodes followed told = without told.crumbs followed.asked

-- tries are counted anew where a node is reached that was not asked before
abbrev pub tries_after : FollowedGroup → Told → ℕ
tries_after followed told = if (fresh_nodes followed told).0 == 0 then followed.tries else 0

-- a group after a message that answers the asks of these nodes
abbrev pub taken : FollowedGroup → NodeSet → Told → FollowedGroup
taken followed answered told = record followed {
  asked = either followed.asked told.crumbs;
  waiting = either (without followed.waiting answered) (fresh_nodes followed told);
  unsent = either (without followed.unsent answered) (fresh_nodes followed told);
  tries = tries_after followed told;
}

-- whether the ask of a node has no answer
abbrev pub waits_for : FollowedGroup → NodeId → Bool
waits_for followed node = nat_lt node.0 MOST_NODES && has_node followed.waiting node.0

-- whether each ask was answered, or those that were not were asked again as often as may be
abbrev pub is_settled : FollowedGroup → ℕ → Bool
is_settled followed tries = followed.waiting.0 == 0 || nat_le tries followed.tries

-- a newer life of a node is heard, and tries are counted anew
abbrev pub renewed : NodeId → FollowedGroup → FollowedGroup
renewed node followed = if waits_for followed node then record followed { unsent = with_node followed.unsent node; tries = 0 } else followed

-- ---- asks are sent

abbrev pub has_unsent : FollowedGroup → Bool
has_unsent followed = not (followed.unsent.0 == 0)

-- the first node whose ask is to be sent
abbrev pub first_unsent : FollowedGroup → Option NodeId
first_unsent followed = option_map (λ node. record { 0 = node }) (slice_get (nodes_of followed.unsent) 0)

-- the ask that is to be sent first, with its node
abbrev pub ask_of : FollowedGroup → Option (NodeId × Ask)
ask_of followed = option_map (λ node. (node, followed.ask)) (first_unsent followed)

-- the ask of a node was sent in this pass
abbrev pub sent_to : NodeId → ℕ → FollowedGroup → FollowedGroup
sent_to node now followed = if nat_lt node.0 MOST_NODES then record followed { unsent = without followed.unsent (one_node node); since = now } else followed

-- whether those that have not answered are to be asked again: each ask was sent, the last one so many passes ago, and the group is not
-- settled
abbrev pub is_due : (now wait tries : ℕ) → FollowedGroup → Bool
is_due now wait tries followed = not (has_unsent followed) && (not (is_settled followed tries) && nat_le wait (now - followed.since))

abbrev pub asked_again : (now wait tries : ℕ) → FollowedGroup → FollowedGroup
asked_again now wait tries followed = if is_due now wait tries followed then record followed { unsent = followed.waiting; tries = followed.tries + 1; since = now } else followed

-- ---- worked examples: node 0 tells of its group 7

abbrev pub told_of : (number crumbs : ℕ) → Why → Told
told_of number crumbs why = record {
  group = record { id = record { node = 0; number = number }; trigger = record { 0 = 1 }; lead = record { 0 = 100 + number } };
  laterals = [];
  crumbs = record { 0 = crumbs };
  why = why;
}

abbrev pub n : ℕ → NodeId
n node = record { 0 = node }

-- its crumb leads to node 1, whose ask is to be sent, and waits
abbrev first : FollowedGroup
first = taken (begun (n 0) (told_of 7 2 Fired)) no_nodes (told_of 7 2 Fired)

node_1_waits : (first.asked ≡ record { 0 = 3 }) × (first.waiting ≡ record { 0 = 2 }) × (first.unsent ≡ record { 0 = 2 })
node_1_waits = (refl, refl, refl)

node_1_is_next : first_unsent first ≡ Some (n 1)
unfolding nodes_of
node_1_is_next = refl

-- a late crumb to it asks it no more, and one to node 2 asks that
once_each : (fresh_nodes first (told_of 7 2 Late) ≡ no_nodes) × (fresh_nodes first (told_of 7 6 Late) ≡ record { 0 = 4 })
once_each = (refl, refl)

-- its answer of epoch 5 counts where no later epoch was heard
by_the_latest_life : (answer_of Answer 5 5 (n 1) ≡ record { 0 = 2 }) × (answer_of Answer 6 5 (n 1) ≡ no_nodes) × (answer_of Late 5 5 (n 1) ≡ no_nodes)
by_the_latest_life = (refl, refl, refl)

answered : is_settled (taken first (answer_of Answer 5 5 (n 1)) (told_of 7 0 Answer)) 3 ≡ true
answered = refl

-- the ask is sent in pass 10, and nothing is to be sent then, until a newer life of node 1 is heard
abbrev sent_in_10 : FollowedGroup
sent_in_10 = sent_to (n 1) 10 first

once_for_a_life : (has_unsent sent_in_10 ≡ false) × (has_unsent (renewed (n 1) sent_in_10) ≡ true) × (has_unsent (renewed (n 2) sent_in_10) ≡ false)
once_for_a_life = (refl, refl, refl)

-- after five passes it is asked again once, and then the group is settled without it
asked_again_once : (is_due 14 5 1 sent_in_10 ≡ false) × (has_unsent (asked_again 15 5 1 sent_in_10) ≡ true) × (is_settled (asked_again 15 5 1 sent_in_10) 1 ≡ true)
asked_again_once = (refl, refl, refl)
