-- What a node leaves where its log was followed.
use Rattle.std.specs.Prelude.{◌≡◌, List, ◌++◌, length, map}
use Rattle.hs_agent.specs.Runs as agents
use Rattle.hs_check_follow.specs.declared.found.FoundClient.{FoundClient}
use Rattle.hs_check_follow.specs.declared.found.FoundNode.{FoundNode}
use Rattle.hs_check_follow.specs.declared.client.FollowedClient.{FollowedClient}
use Rattle.hs_records.specs.declared.books.ClientBook.{ClientBook}
use Rattle.hs_check_follow.specs.declared.node.FollowedNode.{FollowedNode}

-- what its clients noted
abbrev pub books_left : FollowedNode → List ClientBook
books_left t = map (λ (s : FollowedClient). s.book) t.follower.clients.items

abbrev pub found_left : FollowedNode → List FoundClient
found_left t = map (λ (s : FollowedClient). s.found) t.follower.clients.items

-- The same was found, and what was found at these clients stands behind.
abbrev pub HasClientsBehind : List FoundClient → FoundNode → FoundNode → Type 0
HasClientsBehind clients found all =
    (all.clients.items ≡ found.clients.items ++ clients) × (all.gives ≡ found.gives) × (all.hands ≡ found.hands) × (all.said ≡ found.said) × (all.told ≡ found.told) × (all.pinned ≡ found.pinned)

-- This was found at the node.
pub record IsFoundOf (t : FollowedNode) (found : FoundNode) : Type 0 where
  pub clients : found.clients.items ≡ found_left t
  pub gives : found.gives ≡ t.follower.gives
  pub hands : found.hands ≡ t.hands
  pub said : found.said ≡ t.told
  pub told : found.told ≡ length t.follower.said.items
  pub pinned : (run : agents.AgentRun (Unit {0})) → agents.Follows t.follower.agent run → found.pinned ≡ length (agents.state_of run).pinned
