-- A workload beside a journal and the run in which the journal was followed: what the clauses of the lawful journal look at.
use Rattle.std.specs.Prelude.{ℕ, List, take}
use Rattle.std.specs.List.{range_with_len}
use Rattle.hs_records.specs.Journals.{PlainJournal}
use Rattle.hs_law_agent.specs.State.{AgentState}
use Rattle.hs_law_agent.specs.Stepping.{after}
use Rattle.hs_records.specs.Plain.{PlainSettings, PlainWorkload}
use Rattle.hs_law_journal.specs.Following.{NodeRun, Run, followed}

pub record Played : Type 0 where
  pub workload : PlainWorkload
  pub journal : PlainJournal
  pub run : Run

abbrev pub played : PlainWorkload → PlainJournal → Played
played W J = record { workload = W; journal = J; run = followed W J }

-- the numbers of the nodes, and of the clients of a node
abbrev pub nodes_of : PlainWorkload → List ℕ
nodes_of W = range_with_len 0 W.settings.nodes

abbrev pub clients_of : PlainWorkload → List ℕ
clients_of W = range_with_len 0 W.settings.clients

-- a node's agent behind so many steps of its log
abbrev pub state_behind : PlainSettings → NodeRun → ℕ → AgentState
state_behind settings run n = after settings run.node (take n run.events)
