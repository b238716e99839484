-- What the actors of a run did, told pass by pass. The clients' draws; of each node the events of its agent, in passes; and behind each
-- pass the messages that the coordinator took. However the threads of a round went, this order is one in which all of it may be
-- told: what an agent takes in a pass it was sent by clients, or asked in an earlier round, and what the coordinator takes was
-- said in passes before.
use Rattle.std.specs.Prelude.{◌≡◌, ℕ, ◌==◌, List, [], ◌∷◌, map, take, if◌then◌else◌, refl}
use Rattle.std.specs.List.{flat_map}
use Rattle.hs_base.specs.declared.told.Ask.{Ask}
use Rattle.hs_base.specs.declared.told.Crumb.{Crumb}
use Rattle.hs_base.specs.declared.told.Trigger.{Trigger}
use Rattle.hs_coord.specs.Messages.{Message, Messages}
use Rattle.hs_records.specs.declared.journal.Draw.{Draw}
use Rattle.hs_records.specs.declared.journal.Step.{Step}
use Rattle.hs_records.specs.declared.journal.Step.TheVariants as steps
use Rattle.hs_records.specs.Journals.{PlainJournal}
use Rattle.hs_law_agent.specs.Laws.{noted_as}
use Rattle.hs_law_agent.specs.State.{AgentState}
use Rattle.hs_law_agent.specs.Standings.{sample_group, sample_sheet}
use Rattle.hs_law_agent.specs.Stepping.{Chunk, Crumbed, Triggered, Asked, Turn, Given, AgentEvent, Took, Gave, after}
use Rattle.hs_records.specs.Plain.{PlainSettings, PlainWorkload}
use Rattle.hs_client.specs.Sending.{node_sends}
use Rattle.hs_words.specs.Pages.{Sheet}
use Rattle.hs_law_journal.specs.Following.{NodeRun, Run}

-- lists, one behind another
abbrev pub joined : {A : Type 0} → List (List A) → List A
joined lists = flat_map (λ items. items) lists

-- a node, with the events of its agent in passes
pub record NodeDoings : Type 0 where
  pub node : ℕ
  pub passes : List (List AgentEvent)

pub record Doings : Type 0 where
  -- of the clients, in the order of node and number
  pub draws : List (List Draw)
  pub nodes : List NodeDoings
  -- what the coordinator took behind each pass
  pub heard : List Messages

-- ---- a node

abbrev pub all_events : NodeDoings → List AgentEvent
all_events n = joined n.passes

-- the events of the first so many passes
abbrev pub events_in : NodeDoings → ℕ → List AgentEvent
events_in n passes = joined (take passes n.passes)

abbrev pub steps_of : List AgentEvent → List Step
steps_of events = map noted_as events

-- the agent behind the first so many passes, and behind all
abbrev pub state_after : PlainSettings → NodeDoings → ℕ → AgentState
state_after settings n passes = after settings n.node (events_in n passes)

abbrev pub last_state : PlainSettings → NodeDoings → AgentState
last_state settings n = after settings n.node (all_events n)

-- ---- the items that are taken

-- the chunks of a client, by its number
abbrev pub chunk_in : ℕ → AgentEvent → List Sheet
chunk_in client (Took (Chunk other sheet)) = if other == client then sheet ∷ [] else []
chunk_in client _ = []

abbrev pub crumb_in : ℕ → AgentEvent → List Crumb
crumb_in client (Took (Crumbed other crumb)) = if other == client then crumb ∷ [] else []
crumb_in client _ = []

abbrev pub trigger_in : ℕ → AgentEvent → List Trigger
trigger_in client (Took (Triggered other trigger)) = if other == client then trigger ∷ [] else []
trigger_in client _ = []

abbrev pub ask_in : AgentEvent → List Ask
ask_in (Took (Asked ask)) = ask ∷ []
ask_in _ = []

abbrev pub chunks_in : ℕ → List AgentEvent → List Sheet
chunks_in client events = flat_map (chunk_in client) events

abbrev pub crumbs_in : ℕ → List AgentEvent → List Crumb
crumbs_in client events = flat_map (crumb_in client) events

abbrev pub triggers_in : ℕ → List AgentEvent → List Trigger
triggers_in client events = flat_map (trigger_in client) events

abbrev pub asks_in : List AgentEvent → List Ask
asks_in events = flat_map ask_in events

-- ---- the whole

-- what the coordinator took behind the first so many passes, and in all
abbrev pub heard_in : Doings → ℕ → Messages
heard_in d passes = joined (take passes d.heard)

abbrev pub all_heard : Doings → Messages
all_heard d = joined d.heard

-- the journal that notes it
abbrev pub journal_of : PlainWorkload → Doings → PlainJournal
journal_of W d =
    record {
      nodes = W.settings.nodes;
      clients = W.settings.clients;
      draws = d.draws;
      logs = map (λ (n : NodeDoings). steps_of (all_events n)) d.nodes;
      told = map (λ (m : Message). m.node) (all_heard d);
    }

-- the run to which the journal leads when it is followed
abbrev pub node_at_end : PlainWorkload → PlainJournal → NodeDoings → NodeRun
node_at_end W J n =
    record {
      node = n.node;
      sends = node_sends W J n.node;
      left = [];
      events = all_events n;
      state = last_state W.settings n;
    }

abbrev pub run_of : PlainWorkload → Doings → Run
run_of W d =
    record {
      nodes = map (node_at_end W (journal_of W d)) d.nodes;
      left = [];
      heard = all_heard d;
    }

-- ---- examples

abbrev one_node : NodeDoings
one_node = record { node = 0; passes = (Took (Asked (record { group = sample_group 7; laterals = [] })) ∷ Took Turn ∷ []) ∷ (Took Turn ∷ Gave (Given 3) ∷ []) ∷ [] }

passes_in_order : steps_of (all_events one_node) ≡ steps.Ask ∷ steps.Turn ∷ steps.Turn ∷ steps.Given 3 ∷ []
passes_in_order = refl

first_pass : (steps_of (events_in one_node 1) ≡ steps.Ask ∷ steps.Turn ∷ []) × (events_in one_node 0 ≡ [])
first_pass = (refl, refl)

one_ask : (map (λ (ask : Ask). ask.group.lead.0) (asks_in (all_events one_node)) ≡ 7 ∷ []) × (chunks_in 0 (all_events one_node) ≡ [])
one_ask = (refl, refl)

abbrev of_clients : List AgentEvent
of_clients = Took (Chunk 1 (sample_sheet 0 1 5 0)) ∷ Took (Chunk 0 (sample_sheet 0 0 5 0)) ∷ Took (Chunk 1 (sample_sheet 0 1 6 1)) ∷ []

chunks_by_client : (map (λ (sheet : Sheet). sheet.header.page) (chunks_in 1 of_clients) ≡ 0 ∷ 1 ∷ []) × (map (λ (sheet : Sheet). sheet.header.page) (chunks_in 0 of_clients) ≡ 0 ∷ [])
chunks_by_client = (refl, refl)

two_joined : joined {A = ℕ} ((1 ∷ 2 ∷ []) ∷ [] ∷ (3 ∷ []) ∷ []) ≡ 1 ∷ 2 ∷ 3 ∷ []
two_joined = refl
