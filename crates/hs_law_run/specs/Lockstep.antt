-- The lockstep schedule of a workload: the journal that one thread makes. In a round each client in turn does its next
-- operations, as many as the stride, and then the agents make a pass each, and then the coordinator. Behind the last round only
-- passes are made, while anything waits. A machine keeps how far each client is, and the journal up to now; whatever else it
-- needs is read off these two.
use Rattle.std.specs.Prelude.{ℕ, zero, suc, ◌+◌, ◌-◌, ◌*◌, ◌/◌, true, false, min, List, [], ◌∷◌, ◌++◌, length, map, set, replicate, fold, count_by, zip, unwrap_or, slice_get, sum_by}
use Rattle.std.specs.List.{flat_map, range_with_len}
use Rattle.std.specs.Option.{option_map_or}
use Rattle.hs_base.specs.declared.ids.NodeId.{NodeId}
use Rattle.hs_base.specs.declared.limits.TheConstants.{MAX_TAKEN}
use Rattle.hs_records.specs.declared.journal.Draw.{Draw}
use Rattle.hs_records.specs.declared.journal.Step.{Step}
use Rattle.hs_records.specs.declared.journal.Step.TheVariants as steps
use Rattle.hs_records.specs.Journals.{PlainJournal}
use Rattle.hs_records.specs.Plain.{PlainWorkload}
use Rattle.hs_records.specs.Pages.{pages_of}
pub use Rattle.hs_client.specs.Draws.{next_draws}
use Rattle.hs_client.specs.Draws.{count_started, draws_behind}
use Rattle.hs_client.specs.Sending.{ClientSends, operations_at, place_of, sent_within}
use Rattle.hs_law_journal.specs.Ends.{is_bare, rounds_of}
use Rattle.hs_law_journal.specs.Following.{Queue, Chunks, Crumbs, Triggers, Asks, taken, asks_to, is_from, NodeRun, Run, followed}
use Rattle.hs_law_journal.specs.Played.{played}
use Rattle.hs_law_journal.specs.Pooled.{pool_events, pool_history}

pub record Machine : Type 0 where
  -- the operations that each client has done, in the order of node and number
  pub done : List ℕ
  pub journal : PlainJournal

-- nothing is done
abbrev pub machine_start : PlainWorkload → Machine
machine_start W =
    record {
      done = map (λ _. 0) W.clients;
      journal =
          record {
            nodes = W.settings.nodes;
            clients = W.settings.clients;
            draws = map (λ _. []) W.clients;
            logs = replicate W.settings.nodes [];
            told = [];
          };
    }

-- lists with these at their ends, one for one
abbrev pub extended : {A : Type 0} → List (List A) → List (List A) → List (List A)
extended [] more = []
extended (items ∷ lists) [] = items ∷ lists
extended (items ∷ lists) (behind ∷ more) = (items ++ behind) ∷ extended lists more

-- ---- clients

abbrev pub done_at : Machine → ℕ → ℕ
done_at m place = unwrap_or (slice_get m.done place) 0

-- so many draws at a node
abbrev pub draws_by : PlainWorkload → ℕ → NodeRun → List Draw
draws_by W count run = draws_behind W.settings.buffers (pool_history run) count

abbrev pub draws_in : PlainWorkload → Machine → ℕ → ℕ → List Draw
draws_in W m node count = option_map_or (draws_by W count) (slice_get (followed W m.journal).nodes node) []

-- the pages that the first so many operations of a client start
abbrev pub pages_started : PlainWorkload → ℕ → ℕ → ℕ
pages_started W place operations = count_started W.settings.size (operations_at W place) operations

-- the client at a place has done so many operations, and drew so
abbrev pub with_draws : Machine → ℕ → ℕ → List Draw → Machine
with_draws m place done new =
    record {
      done = set m.done place done;
      journal = record (m.journal) { draws = set m.journal.draws place (unwrap_or (slice_get m.journal.draws place) [] ++ new) };
    }

-- the client at a place does its next operations, and draws for each page that they start
abbrev pub client_goes : PlainWorkload → Machine → ℕ → Machine
client_goes W m place =
    let done = min (done_at m place + W.settings.stride) (length (operations_at W place)) in
    let count = pages_started W place done - pages_started W place (done_at m place) in
    with_draws m place done (draws_in W m (place / W.settings.clients) count)

abbrev pub clients_go : PlainWorkload → Machine → Machine
clients_go W m = fold (client_goes W) m (range_with_len 0 (length W.clients))

-- ---- agents

-- as many steps as there are items in a queue, of so many that were sent
abbrev pub takes_from : NodeRun → Queue → Step → ℕ → List Step
takes_from run queue step sent = replicate (min (sent - taken queue run.state.log) MAX_TAKEN) step

-- what the agent takes from a client that has done so many operations
abbrev pub takes_of : NodeRun → ℕ → ClientSends → ℕ → List Step
takes_of run client sends done =
    takes_from run (Chunks client) (steps.Chunk client) (length (sent_within done sends.chunks))
    ++ takes_from run (Crumbs client) (steps.Crumb client) (length (sent_within done sends.crumbs))
    ++ takes_from run (Triggers client) (steps.Trigger client) (length (sent_within done sends.triggers))

abbrev pub takes_all : PlainWorkload → Machine → NodeRun → List Step
takes_all W m run =
    flat_map
    (λ (c : ℕ × ClientSends). takes_of run c.0 c.1 (done_at m (place_of W.settings.clients run.node c.0)))
    (zip (range_with_len 0 (length run.sends)) run.sends)

-- what the agent takes in a pass, and its turn
abbrev pub pass_steps : PlainWorkload → Machine → Run → NodeRun → List Step
pass_steps W m run node = takes_all W m node ++ takes_from node Asks steps.Ask (length (asks_to node.node run.heard)) ++ steps.Turn ∷ []

-- all that is in the hand is given, each with the next stamp
abbrev pub give_steps : NodeRun → List Step
give_steps run = map (λ (stamp : ℕ). steps.Given stamp) (range_with_len (length (pool_events run)) (length run.state.hand))

abbrev pub with_steps : Machine → List (List Step) → Machine
with_steps m new = record m { journal = record (m.journal) { logs = extended m.journal.logs new } }

-- each agent takes and makes its turn
abbrev pub agents_take : PlainWorkload → Machine → Machine
agents_take W m = let run = followed W m.journal in with_steps m (map (pass_steps W m run) run.nodes)

-- each agent gives
abbrev pub agents_give : PlainWorkload → Machine → Machine
agents_give W m = with_steps m (map give_steps (followed W m.journal).nodes)

-- ---- the coordinator

-- the messages of a node that wait
abbrev pub told_of : Run → NodeRun → List NodeId
told_of run node =
    let heard = count_by (is_from (record { 0 = node.node })) run.heard in
    replicate (min (length node.state.said - heard) MAX_TAKEN) (record { 0 = node.node })

abbrev pub coordinator_hears : PlainWorkload → Machine → Machine
coordinator_hears W m =
    let run = followed W m.journal in
    record m { journal = record (m.journal) { told = m.journal.told ++ flat_map (told_of run) run.nodes } }

-- ---- the whole

-- a pass of the agents and one of the coordinator
abbrev pub passes : PlainWorkload → Machine → Machine
passes W m = coordinator_hears W (agents_give W (agents_take W m))

abbrev pub round : PlainWorkload → Machine → Machine
round W m = passes W (clients_go W m)

abbrev pub rounds : ℕ → PlainWorkload → Machine → Machine
rounds zero W m = m
rounds (suc more) W m = rounds more W (round W m)

-- passes while anything waits, at most so many
abbrev pub closing : ℕ → PlainWorkload → Machine → Machine
closing zero W m = m
closing (suc more) W m = elim (is_bare (played W m.journal)) [ true ↦ m | false ↦ closing more W (passes W m) ]

-- More passes than this never come, for each takes an item or an ask, or hears a message, or reports a chunk: of a client's pages and
-- operations comes one item each, of a trigger one ask for each node, and what is taken leads to one message or one pinned chunk.
abbrev pub closing_limit : PlainWorkload → ℕ
closing_limit W = let all = sum_by (λ ops. length (pages_of W.settings.size ops) + length ops) W.clients in 2 * (all + W.settings.nodes * all) + 1

-- the journal of the lockstep schedule
abbrev pub lockstep : PlainWorkload → PlainJournal
lockstep W = (closing (closing_limit W) W (rounds (rounds_of W) W (machine_start W))).journal
