-- How counts go on behind a round, client by client and log by log.
use Rattle.std.specs.Prelude.{◌≡◌, ℕ, ◌+◌, ◌*◌, ◌^◌, ◌<◌, ◌≤◌, List, length, take, count_by, slice_get, Some}
use Rattle.hs_base.specs.declared.limits.TheConstants.{MAX_OPERATIONS}
use Rattle.hs_run_actors.specs.ClientActors.{PlainClientActor}
use Rattle.hs_run.specs.declared.client.ClientCount.{ClientCount}
use Rattle.hs_run.specs.declared.log.LogCount.{LogCount}
use Rattle.hs_run.specs.Counts.{client_count, log_count}
use Rattle.hs_records.specs.declared.journal.Step.{Step}
use Rattle.hs_run.specs.Progress.{is_point, is_chunk, is_given}
use Rattle.hs_records.specs.Plain.{Operation, PlainWorkload}
use Rattle.hs_client.specs.Sending.{operations_at, place_of}
use Rattle.hs_records.specs.Validity.{IsValid}
use Rattle.hs_run.specs.declared.node.ActingNode.{ActingNode}

-- ---- nothing is counted

abbrev pub no_operations : ClientCount
no_operations = record { done = 0; points = 0; nulls = 0 }

abbrev pub no_steps : LogCount
no_steps = record { steps = 0; taken = 0; given = 0 }

-- ---- clients

-- The count was taken where the client had done fewer of these operations, or as many.
pub record MayCountClient (ops : List Operation) (caller : PlainClientActor) (count : ClientCount) : Type 0 where
  pub few : length ops ≤ MAX_OPERATIONS
  pub grown : count.done ≤ caller.done
  pub within : caller.done ≤ length ops
  pub points : count.points ≡ count_by is_point (take count.done ops)

-- The clients of a node of the workload can be counted on.
pub record MayCountNode (W : PlainWorkload) (node : ℕ) (callers : List PlainClientActor) (counts : List ClientCount) : Type 0 where
  pub valid : IsValid W
  pub low : node < W.settings.nodes
  pub many : length callers ≡ W.settings.clients
  pub counts_are : length counts ≡ length W.clients
  pub each : (number : ℕ) (caller : PlainClientActor) (count : ClientCount) → slice_get callers number ≡ Some caller → slice_get counts (place_of W.settings.clients node number) ≡ Some count
      → MayCountClient (operations_at W (place_of W.settings.clients node number)) caller count

-- The first so many clients of a node are counted, and the other counts are as they were.
pub record CountedFirst (W : PlainWorkload) (node count : ℕ) (callers : List PlainClientActor) (old new : List ClientCount) : Type 0 where
  pub many : length new ≡ length old
  pub first : (number : ℕ) (caller : PlainClientActor) → number < count → slice_get callers number ≡ Some caller
      → slice_get new (place_of W.settings.clients node number) ≡ Some (client_count (operations_at W (place_of W.settings.clients node number)) caller)
  pub before : (place : ℕ) → place < node * W.settings.clients → slice_get new place ≡ slice_get old place
  pub behind : (place : ℕ) → node * W.settings.clients + count ≤ place → slice_get new place ≡ slice_get old place

-- The clients of all nodes can be counted on.
pub record MayCountNodes (W : PlainWorkload) (nodes : List ActingNode) (counts : List ClientCount) : Type 0 where
  pub each : (node : ℕ) (at : ActingNode) → slice_get nodes node ≡ Some at → MayCountNode W node at.site.callers counts

-- The clients of the first so many nodes are counted, and the counts behind these are as they were.
pub record CountedNodes (W : PlainWorkload) (count : ℕ) (nodes : List ActingNode) (old new : List ClientCount) : Type 0 where
  pub many : length new ≡ length old
  pub first : (node number : ℕ) (at : ActingNode) (caller : PlainClientActor) → node < count → slice_get nodes node ≡ Some at → slice_get at.site.callers number ≡ Some caller
      → slice_get new (place_of W.settings.clients node number) ≡ Some (client_count (operations_at W (place_of W.settings.clients node number)) caller)
  pub behind : (place : ℕ) → count * W.settings.clients ≤ place → slice_get new place ≡ slice_get old place

-- ---- logs

-- The count was taken where the log had some of these steps, and those of the whole log are numbers of 32 bits.
pub record MayCountLog (log : List Step) (count : LogCount) : Type 0 where
  pub within : count.steps ≤ length log
  pub counted : count ≡ log_count (take count.steps log)
  pub few : (count_by is_chunk log < 2 ^ 32) × (count_by is_given log < 2 ^ 32)

-- The logs of all nodes can be counted on.
pub record MayCountLogs (nodes : List ActingNode) (counts : List LogCount) : Type 0 where
  pub many : length counts ≡ length nodes
  pub each : (node : ℕ) (at : ActingNode) (count : LogCount) → slice_get nodes node ≡ Some at → slice_get counts node ≡ Some count → MayCountLog at.site.agent.agent.log count

-- The log of the node with this number is counted.
abbrev pub LogCounted : List ActingNode → ℕ → LogCount → LogCount → Type 0
LogCounted nodes node old new = (at : ActingNode) → slice_get nodes node ≡ Some at → new ≡ log_count at.site.agent.agent.log
