-- That the journal of a run's story is lawful, and where it leads each agent.
use Rattle.std.specs.Prelude.{◌≡◌, ℕ, ◌<◌, length, map}
use Rattle.std.specs.List.{range_with_len}
use Rattle.hs_coord.specs.Messages.{Message}
use Rattle.hs_law_agent.specs.State.{AgentState}
use Rattle.hs_records.specs.Plain.{PlainWorkload}
use Rattle.hs_client.specs.Sending.{draws_at}
use Rattle.hs_records.specs.Validity.{IsValid}
use Rattle.hs_law_journal.specs.Following.{NodeRun, followed}
use Rattle.hs_law_journal.specs.Lawful.{IsLawful}
use Rattle.hs_law_journal.specs.Doings.{journal_of}
use Rattle.hs_law_run.specs.Stories.{Story, doings_of, state_by, IsStory}

-- a node beside its agent
pub record AgentAt : Type 0 where
  pub node : ℕ
  pub state : AgentState

abbrev pub agent_of : NodeRun → AgentAt
agent_of run = record { node = run.node; state = run.state }

abbrev pub agent_behind : PlainWorkload → Story → ℕ → AgentAt
agent_behind W s node = record { node = node; state = state_by W s node s.passes }

-- The journal of the story is lawful; it notes the draws and whom the coordinator heard; and to follow it leads the agents to where they
-- stood in the end.
pub record IsTold (W : PlainWorkload) (s : Story) : Type 0 where
  pub lawful : IsLawful W (journal_of W (doings_of W s))
  pub draws : (place : ℕ) → place < length W.clients → draws_at (journal_of W (doings_of W s)) place ≡ s.draws place
  pub told : (journal_of W (doings_of W s)).told ≡ map (λ (m : Message). m.node) (s.heard s.passes)
  pub agents : map agent_of (followed W (journal_of W (doings_of W s))).nodes ≡ map (agent_behind W s) (range_with_len 0 W.settings.nodes)

abbrev pub StoriesAreLawful : Type 0
StoriesAreLawful = (W : PlainWorkload) (s : Story) → IsValid W → IsStory W s → IsTold W s
