-- What is left where a lawful journal was followed: the books of the clients, and agents that have nothing pinned.
use Rattle.std.specs.Prelude.{◌≡◌, List, [], map}
use Rattle.hs_agent.specs.Keeping.{PlainAgent}
use Rattle.hs_check_follow.specs.Finding.{AreFound}
use Rattle.hs_check_follow.specs.Nodes.{FollowedAgentStands}
use Rattle.hs_check_follow.specs.declared.parting.FollowedParts.{FollowedParts}
use Rattle.hs_records.specs.Books.{PlainAgentBook, client_book_of}
use Rattle.hs_records.specs.Journals.{PlainJournal}
use Rattle.hs_law_journal.specs.Following.{NodeRun, followed}
use Rattle.hs_law_journal.specs.Lawful.{IsLawful}
use Rattle.hs_law_agent.specs.Books.{book_of}
use Rattle.hs_law_outcome.specs.Outcomes.{client_books}
use Rattle.hs_records.specs.Plain.{PlainSettings, PlainWorkload}
use Rattle.hs_records.specs.Validity.{IsValid}

-- the book of a node's agent
abbrev pub book_at : NodeRun → PlainAgentBook
book_at run = book_of run.node run.state

-- The agent follows the node's run, and has nothing pinned.
pub record IsAgentOf (settings : PlainSettings) (run : NodeRun) (agent : PlainAgent (Unit {0})) : Type 0 where
  pub stands : FollowedAgentStands settings run agent
  pub pinned : run.state.pinned ≡ []

-- one agent for each run
abbrev pub AreAgentsOf : PlainSettings → List NodeRun → List (PlainAgent (Unit {0})) → Type 0
AreAgentsOf settings runs agents = AreFound (IsAgentOf settings) runs agents

-- the agents follow runs, whichever these are
abbrev pub MayFinish : List (PlainAgent (Unit {0})) → Type 0
MayFinish agents = (settings : PlainSettings) × (runs : List NodeRun) × AreAgentsOf settings runs agents

-- These are the books of the agents.
abbrev pub HaveFinished : List (PlainAgent (Unit {0})) → List PlainAgentBook → Type 0
HaveFinished agents books = (settings : PlainSettings) (runs : List NodeRun) → AreAgentsOf settings runs agents → books ≡ map book_at runs

-- This is left of a lawful journal.
pub record AreLeft (W : PlainWorkload) (J : PlainJournal) (ended : FollowedParts) : Type 0 where
  pub valid : IsValid W
  pub lawful : IsLawful W J
  pub clients : map client_book_of ended.clients.items ≡ client_books W J
  pub agents : AreAgentsOf W.settings (followed W J).nodes ended.agents.items
