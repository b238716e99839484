-- Steps of a journal in whatever order they come, as long as each is ready when it is performed: the next step of the log of some
-- node, or the next message that the coordinator takes. A run is at rest where nothing is ready. All orders that lead to rest lead
-- to the same run, so a journal has one outcome.
use Rattle.std.specs.Prelude.{◌≡◌, ◌⊎◌, ℕ, true, Some, set, slice_get}
use Rattle.hs_records.specs.Journals.{PlainJournal}
use Rattle.hs_records.specs.Plain.{PlainSettings, PlainWorkload}
use Rattle.hs_law_journal.specs.Following.{NodeRun, Run, run_start, step_node, hear, followed, is_done}

-- the run with another node at a place
abbrev pub with_node : Run → ℕ → NodeRun → Run
with_node run place node = record run { nodes = set run.nodes place node }

-- The node at some place performed its next step.
pub record StepsNode (settings : PlainSettings) (run next : Run) : Type 0 where
  pub place : ℕ
  pub node : NodeRun
  pub stepped : NodeRun
  pub stands : slice_get run.nodes place ≡ Some node
  pub ready : step_node settings run.heard node ≡ Some stepped
  pub result : next ≡ with_node run place stepped

-- The coordinator took its next message.
abbrev pub Hears : Run → Run → Type 0
Hears run next = hear run run.left ≡ Some next

-- one step more was performed, wherever
abbrev pub Performs : PlainSettings → Run → Run → Type 0
Performs settings run next = StepsNode settings run next ⊎ Hears run next

-- One run comes from another by steps, each of which was ready when it was performed.
pub data Leads (settings : PlainSettings) : Run → Run → Type 0 where
  Stays : (run : Run) → Leads settings run run
  Goes : (run next last : Run) → Performs settings run next → Leads settings next last → Leads settings run last

-- nothing is ready
abbrev pub IsAtRest : PlainSettings → Run → Type 0
IsAtRest settings run = (next : Run) → Performs settings run next → ⊥

-- A run of the journal in some order, as far as it goes.
pub record IsPlayedOut (W : PlainWorkload) (J : PlainJournal) (last : Run) : Type 0 where
  pub leads : Leads W.settings (run_start W J) last
  pub rests : IsAtRest W.settings last

-- Following the journal, with the lowest node first, is one such order.
abbrev pub FollowingPlaysOut : Type 0
FollowingPlaysOut = (W : PlainWorkload) (J : PlainJournal) → IsPlayedOut W J (followed W J)

-- And no other order comes to anything else.
abbrev pub OrdersAgree : Type 0
OrdersAgree = (W : PlainWorkload) (J : PlainJournal) (last : Run) → IsPlayedOut W J last → last ≡ followed W J

-- Where no step is left, nothing is ready: an order that performs every step plays the journal out.
abbrev pub DoneIsAtRest : Type 0
DoneIsAtRest = (settings : PlainSettings) (run : Run) → is_done run ≡ true → IsAtRest settings run
