-- What is counted of a run between two rounds: of each client the operations that are done, the points among these and the null pages; and of
-- each agent, in the steps that it noted, the chunks that it took and the buffers that it gave.
use Rattle.std.specs.Prelude.{◌≡◌, ℕ, ◌<◌, List, length, take, slice_get, Some, count_by, sum_by}
use Rattle.hs_law_journal.specs.Doings.{steps_of}
use Rattle.hs_board.specs.declared.progress.Progress.{Progress}
use Rattle.hs_run_actors.specs.ClientActors.{PlainClientActor}
use Rattle.hs_client.specs.Core.{is_null}
use Rattle.hs_run.specs.declared.client.ClientCount.{ClientCount}
use Rattle.hs_run.specs.declared.log.LogCount.{LogCount}
use Rattle.hs_records.specs.declared.journal.Step.{Step}
use Rattle.hs_run.specs.Progress.{is_point, is_chunk, is_given}
use Rattle.hs_records.specs.Plain.{Operation, PlainWorkload}
use Rattle.hs_run.specs.RunStates.{PlainNodeActors, RunState}
use Rattle.hs_client.specs.Sending.{operations_at, place_of}

-- of each client, in the order of node and number, and of each node
pub record PlainRunTally : Type 0 where
  pub clients : List ClientCount
  pub logs : List LogCount

abbrev pub client_count : List Operation → PlainClientActor → ClientCount
client_count ops caller = record { done = caller.done; points = count_by is_point (take caller.done ops); nulls = count_by is_null caller.client.core.draws }

abbrev pub log_count : List Step → LogCount
log_count log = record { steps = length log; taken = count_by is_chunk log; given = count_by is_given log }

-- These are the counts at a moment.
pub record AreCounts (W : PlainWorkload) (m : RunState) (counts : PlainRunTally) : Type 0 where
  pub clients_are : length counts.clients ≡ length W.clients
  pub logs_are : length counts.logs ≡ W.settings.nodes
  pub clients : (node client : ℕ) (site : PlainNodeActors) (caller : PlainClientActor) → slice_get m.standing.nodes node ≡ Some site → slice_get site.callers client ≡ Some caller
      → slice_get counts.clients (place_of W.settings.clients node client) ≡ Some (client_count (operations_at W (place_of W.settings.clients node client)) caller)
  pub logs : (node : ℕ) → node < W.settings.nodes → slice_get counts.logs node ≡ Some (log_count (steps_of (m.works node).events))

-- what they come to behind so many rounds
abbrev pub progress_of : ℕ → PlainRunTally → Progress
progress_of rounds counts =
    record {
      rounds = rounds;
      operations = sum_by (λ (c : ClientCount). c.done) counts.clients;
      records = sum_by (λ (c : ClientCount). c.points) counts.clients;
      nulls = sum_by (λ (c : ClientCount). c.nulls) counts.clients;
      taken = sum_by (λ (c : LogCount). c.taken) counts.logs;
      given = sum_by (λ (c : LogCount). c.given) counts.logs;
    }
