-- Which nodes a group reaches, and which asks are sent for it, over the messages that the coordinator has taken, here in the
-- order in which it took them. A group's asked set has the node that told its first message and each node to which a crumb of its
-- messages leads. Each node that joins it by a crumb gets one ask, with the group and the laterals of the first message, and the
-- first `Answer` of the group that this node tells after the ask answers it.
use Rattle.std.specs.Prelude.{◌≡◌, ℕ, Bool, true, false, not, ◌&&◌, ◌||◌, ◌==◌, List, [], ◌∷◌, ◌++◌, find, unwrap_or, refl}
use Rattle.std.specs.List.{list_any}
use Rattle.std.specs.Option.{option_map_or}
pub use Rattle.hs_coord.specs.Messages.{Message, Messages, message, same_group, is_of}
use Rattle.hs_coord.specs.Messages.{sample, sample_group, nodes_where}
use Rattle.hs_base.specs.declared.ids.GroupId.{GroupId}
use Rattle.hs_base.specs.declared.told.Why.{Why}
use Rattle.hs_base.specs.declared.told.Why.TheVariants.{Fired, Answer, Late}
use Rattle.hs_base.specs.NodeSets.{has_node}
use Rattle.hs_coord.specs.declared.asks.Asks.{Asks}

-- whether the node told the group's first message
abbrev pub is_first_sender : GroupId → Messages → ℕ → Bool
is_first_sender group messages node = option_map_or (λ (m : Message). node == m.node.0) (find (is_of group) messages) false

-- whether a crumb of the group leads to the node
abbrev pub has_crumb : GroupId → Messages → ℕ → Bool
has_crumb group messages node = list_any (λ (m : Message). is_of group m && has_node m.told.crumbs node) messages

-- whether the node is in the group's asked set
abbrev pub is_asked : GroupId → Messages → ℕ → Bool
is_asked group messages node = is_first_sender group messages node || has_crumb group messages node

-- whether the node got an ask: it is in the asked set, and did not tell the first message
abbrev pub has_ask : GroupId → Messages → ℕ → Bool
has_ask group messages node = has_crumb group messages node && not (is_first_sender group messages node)

-- The first message of a message's group, among the messages before it and itself.
abbrev pub first_of : Messages → Message → Message
first_of before m = unwrap_or (find (is_of m.told.group.id) before) m

-- whether a message leads to an ask of the node, after the messages before it: the node has one now and had none before
abbrev pub is_newly_asked : Messages → Message → ℕ → Bool
is_newly_asked before m node =
    has_ask m.told.group.id (before ++ m ∷ []) node && not (has_ask m.told.group.id before node)

-- The asks that a message leads to, after the messages before it: of its group's first message, to each node that is newly asked.
pub record AreAsks (before : Messages) (m : Message) (asks : Asks) : Type 0 where
  pub group : asks.ask.group ≡ (first_of before m).told.group
  pub laterals : asks.ask.laterals ≡ (first_of before m).told.laterals
  pub to : (node : ℕ) → has_node asks.to node ≡ is_newly_asked before m node

abbrev pub is_answer : Why → Bool
is_answer Fired = false
is_answer Answer = true
is_answer Late = false

-- whether a message is an `Answer` of the group from the node
abbrev pub is_answer_from : GroupId → ℕ → Message → Bool
is_answer_from group node m = is_of group m && node == m.node.0 && is_answer m.told.why

-- whether one of the later messages answers the node's ask, which it got by a message that stands before the answer
abbrev pub is_answered_after : GroupId → ℕ → Messages → Messages → Bool
is_answered_after group node before [] = false
is_answered_after group node before (m ∷ later) =
    has_ask group before node && is_answer_from group node m || is_answered_after group node (before ++ m ∷ []) later

-- whether the node's ask was answered
abbrev pub is_answered : GroupId → Messages → ℕ → Bool
is_answered group messages node = is_answered_after group node [] messages

-- every ask of every group was answered
abbrev pub IsSettled : Messages → Type 0
IsSettled messages = (group : GroupId) (node : ℕ) → has_ask group messages node ≡ true → is_answered group messages node ≡ true

-- Node 0 admits a trigger, and its crumb leads to node 1. Node 1 answers with a crumb to node 2, and node 2 with one to node 0.
round_trip : Messages
round_trip = sample 0 2 Fired ∷ sample 1 4 Answer ∷ sample 2 1 Answer ∷ []

-- the nodes that the next message leads to
fresh_nodes : Messages → Message → List ℕ
fresh_nodes before m = nodes_where (is_newly_asked before m)

node_1_is_asked : fresh_nodes [] (sample 0 2 Fired) ≡ 1 ∷ []
unfolding fresh_nodes
node_1_is_asked = refl

node_2_is_asked : fresh_nodes (sample 0 2 Fired ∷ []) (sample 1 4 Answer) ≡ 2 ∷ []
unfolding fresh_nodes
node_2_is_asked = refl

-- node 0 told the first message
nobody_is_asked : fresh_nodes (sample 0 2 Fired ∷ sample 1 4 Answer ∷ []) (sample 2 1 Answer) ≡ []
unfolding fresh_nodes
nobody_is_asked = refl

-- nor is the sender for its own crumb, nor a node that was asked before
the_sender_is_not_asked : fresh_nodes [] (sample 0 3 Fired) ≡ 1 ∷ []
unfolding fresh_nodes
the_sender_is_not_asked = refl

a_node_is_asked_once : fresh_nodes (sample 0 2 Fired ∷ []) (sample 0 6 Late) ≡ 2 ∷ []
unfolding fresh_nodes
a_node_is_asked_once = refl

three_nodes_are_asked : nodes_where (is_asked sample_group round_trip) ≡ 0 ∷ 1 ∷ 2 ∷ []
unfolding round_trip
three_nodes_are_asked = refl

-- both asks were answered, and before the last message one was not
two_asks_are_answered : (nodes_where (has_ask sample_group round_trip) ≡ 1 ∷ 2 ∷ []) × (nodes_where (is_answered sample_group round_trip) ≡ 1 ∷ 2 ∷ [])
unfolding round_trip
two_asks_are_answered = (refl, refl)

one_ask_waits : nodes_where (is_answered sample_group (sample 0 2 Fired ∷ sample 1 4 Answer ∷ [])) ≡ 1 ∷ []
one_ask_waits = refl

-- a `Late` answers nothing, and an `Answer` no ask that comes after it
a_late_is_no_answer : nodes_where (is_answered sample_group (sample 0 2 Fired ∷ sample 1 4 Late ∷ [])) ≡ []
a_late_is_no_answer = refl

an_early_answer_is_none : nodes_where (is_answered sample_group (sample 0 0 Fired ∷ sample 1 0 Answer ∷ sample 0 2 Late ∷ [])) ≡ []
an_early_answer_is_none = refl

-- the asks of a later message carry the lead and the laterals of the first
the_first_message_is_carried : (first_of (sample 0 2 Fired ∷ []) (sample 1 4 Answer)).told.laterals ≡ record { 0 = 200 } ∷ []
the_first_message_is_carried = refl

-- another group's messages say nothing of this one
no_message_of_another_group : nodes_where (is_asked (record { node = 1; number = 7 }) round_trip) ≡ []
unfolding round_trip
no_message_of_another_group = refl
