-- What there is to take for the agents and the coordinator of a journal, and that they take nothing else. An agent has taken at
-- most what its clients sent and what it was asked, and the coordinator has heard at most what was said. So no ask and no message
-- is there for its own sake.
use Rattle.std.specs.Prelude.{◌≡◌, ℕ, ◌≤◌, List, length, count_by, slice_get, refl}
use Rattle.std.specs.List.{AllByRecursion}
use Rattle.std.specs.Option.{option_map_or}
use Rattle.hs_base.specs.declared.ids.NodeId.{NodeId}
use Rattle.hs_coord.specs.Following.{Messages}
use Rattle.hs_records.specs.Journals.{PlainJournal}
use Rattle.hs_records.specs.Plain.{PlainWorkload}
use Rattle.hs_client.specs.Sending.{ClientSends}
use Rattle.hs_law_journal.specs.Following.{Queue, Chunks, Crumbs, Triggers, Asks, taken, asks_to, is_from, NodeRun, Run, run_start, followed}
use Rattle.hs_law_journal.specs.Journals
use Rattle.hs_law_journal.specs.Orders.{Leads}
use Rattle.hs_law_journal.specs.Workloads.{trigger_first}

-- how many items a client sends to a queue of its own kind
abbrev pub sent_to : Queue → ClientSends → ℕ
sent_to (Chunks client) sends = length sends.chunks
sent_to (Crumbs client) sends = length sends.crumbs
sent_to (Triggers client) sends = length sends.triggers
sent_to Asks sends = 0

-- how many items there are in a queue of a node, taken or not
abbrev pub supply : NodeRun → Messages → Queue → ℕ
supply run heard (Chunks client) = option_map_or (sent_to (Chunks client)) (slice_get run.sends client) 0
supply run heard (Crumbs client) = option_map_or (sent_to (Crumbs client)) (slice_get run.sends client) 0
supply run heard (Triggers client) = option_map_or (sent_to (Triggers client)) (slice_get run.sends client) 0
supply run heard Asks = length (asks_to run.node heard)

-- how many messages a node said
abbrev pub said_at : List NodeRun → NodeId → ℕ
said_at runs node = option_map_or (λ (run : NodeRun). length run.state.said) (slice_get runs node.0) 0

pub record TakesWhatIsThere (run : Run) : Type 0 where
  pub items : AllByRecursion (λ (node : NodeRun). (queue : Queue) → taken queue node.state.log ≤ supply node run.heard queue) run.nodes
  pub messages : (node : NodeId) → count_by (is_from node) run.heard ≤ said_at run.nodes node

abbrev pub NothingIsTakenUnsent : Type 0
NothingIsTakenUnsent = (W : PlainWorkload) (J : PlainJournal) (run : Run) → Leads W.settings (run_start W J) run → TakesWhatIsThere run

-- the one message of the one node was said, and heard
one_message : said_at (followed trigger_first Journals.of_trigger_first).nodes (record { 0 = 0 }) ≡ 1
one_message = refl
