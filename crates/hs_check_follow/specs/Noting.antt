-- What is noted behind the passes of a node.
use Rattle.std.specs.Prelude.{◌≡◌, ℕ, Bool, true, false, List, [], ◌∷◌, ◌++◌, length, map}
use Rattle.hs_records.specs.Journals.{PlainJournal}
use Rattle.hs_records.specs.declared.journal.Step.{Step}
use Rattle.hs_law_journal.specs.Following.{NodeRun}
use Rattle.hs_law_journal.specs.Played.{state_behind}
use Rattle.hs_law_agent.specs.State.{AgentState}
use Rattle.hs_records.specs.Plain.{PlainSettings, PlainWorkload}
use Rattle.hs_check_follow.specs.Ends.{ends_within}
use Rattle.hs_check_follow.specs.Nodes.{FollowedNodeStands}
use Rattle.hs_check_follow.specs.declared.node.FollowedNode.{FollowedNode}

abbrev pub hand_of : AgentState → ℕ
hand_of state = length state.hand

abbrev pub said_of : AgentState → ℕ
said_of state = length state.said

-- what there is behind so many steps
abbrev pub behind_at : PlainSettings → NodeRun → (AgentState → ℕ) → ℕ → ℕ
behind_at settings run count n = count (state_behind settings run n)

-- What was noted behind the passes that ended within the steps which were performed of this log.
pub record HasNotes (settings : PlainSettings) (run : NodeRun) (log : List Step) (t : FollowedNode) : Type 0 where
  pub count : length run.events ≡ t.next
  pub hands : t.hands.items ≡ map (behind_at settings run hand_of) (ends_within 0 t.next log)
  pub told : t.told.items ≡ map (behind_at settings run said_of) (ends_within 0 t.next log)

abbrev pub noted_if : Bool → ℕ → List ℕ
noted_if true count = count ∷ []
noted_if false count = []

-- Where a pass ended, what is behind it was noted.
pub record Notes (last : Bool) (old new : FollowedNode) : Type 0 where
  pub follower : new.follower ≡ old.follower
  pub next : new.next ≡ old.next
  pub hands : (W : PlainWorkload) (J : PlainJournal) (run : NodeRun) (log : List Step) → FollowedNodeStands W J run log old.follower → new.hands.items ≡ old.hands.items ++ noted_if last (hand_of run.state)
  pub told : (W : PlainWorkload) (J : PlainJournal) (run : NodeRun) (log : List Step) → FollowedNodeStands W J run log old.follower → new.told.items ≡ old.told.items ++ noted_if last (said_of run.state)
