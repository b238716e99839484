-- A journal that goes on: behind what a journal has, more draws, more steps and more messages. All that was performed of the
-- shorter journal can be performed of the longer one as well, with the same effect, and what is left then is what the longer one
-- has more. So whoever makes a journal piece by piece need not follow it from its start again.
use Rattle.std.specs.Prelude.{◌≡◌, ℕ, List, ◌++◌, length, map, drop, Some}
use Rattle.std.specs.List.{AllByRecursion, range_with_len}
use Rattle.hs_coord.specs.Following.{Messages}
use Rattle.hs_records.specs.Journals.{PlainJournal}
use Rattle.hs_records.specs.Plain.{PlainSettings, PlainWorkload}
use Rattle.hs_client.specs.Sending.{draws_at, node_sends}
use Rattle.hs_law_journal.specs.Following.{NodeRun, Run, log_at, run_start, step_node, followed}
use Rattle.hs_law_journal.specs.Orders.{Leads}

-- one list is another with more behind it
pub record HasMore {A : Type 0} (list longer : List A) : Type 0 where
  pub more : List A
  pub is : longer ≡ list ++ more

pub record GoesOn (J K : PlainJournal) : Type 0 where
  pub draws : (place : ℕ) → HasMore (draws_at J place) (draws_at K place)
  pub logs : (node : ℕ) → HasMore (log_at J node) (log_at K node)
  pub told : HasMore J.told K.told

-- a node of the shorter journal's run, in the longer one: its clients send as they do there, and more is left of its log
abbrev pub node_behind : PlainWorkload → (J K : PlainJournal) → NodeRun → NodeRun
node_behind W J K node = record node { sends = node_sends W K node.node; left = node.left ++ drop (length (log_at J node.node)) (log_at K node.node) }

abbrev pub run_behind : PlainWorkload → (J K : PlainJournal) → Run → Run
run_behind W J K run =
    record {
      nodes = map (node_behind W J K) run.nodes;
      left = run.left ++ drop (length J.told) K.told;
      heard = run.heard;
    }

-- The longer journal leads to where the shorter one leads, with more left.
abbrev pub JournalsGoOn : Type 0
JournalsGoOn = (W : PlainWorkload) (J K : PlainJournal) → GoesOn J K → Leads W.settings (run_start W K) (run_behind W J K (followed W J))

-- A node of a run is the journal's: its clients send what they send there, and what was performed and what is left are its log.
pub record IsOfJournal (W : PlainWorkload) (J : PlainJournal) (run : NodeRun) : Type 0 where
  pub sends : run.sends ≡ node_sends W J run.node
  pub log : run.state.log ++ run.left ≡ log_at J run.node

pub record NodesAreOfJournal (W : PlainWorkload) (J : PlainJournal) (run : Run) : Type 0 where
  pub each : AllByRecursion (IsOfJournal W J) run.nodes
  pub numbers : map (λ (node : NodeRun). node.node) run.nodes ≡ range_with_len 0 W.settings.nodes

abbrev pub RunsAreOfTheJournal : Type 0
RunsAreOfTheJournal = (W : PlainWorkload) (J : PlainJournal) (run : Run) → Leads W.settings (run_start W J) run → NodesAreOfJournal W J run

-- A step is noted: what was performed and what is left are what they were. Of the rest only the agent's state changes.
pub record IsNoted (run next : NodeRun) : Type 0 where
  pub log : next.state.log ++ next.left ≡ run.state.log ++ run.left
  pub sends : next.sends ≡ run.sends
  pub node : next.node ≡ run.node

abbrev pub StepsAreNoted : Type 0
StepsAreNoted = (settings : PlainSettings) (heard : Messages) (run next : NodeRun) → step_node settings heard run ≡ Some next → IsNoted run next
