-- The queues from which an agent takes, as the code names them.
use Rattle.std.specs.Prelude.{ℕ, ◌<◌}
use Rattle.hs_records.specs.declared.journal.Step.{Step}
use Rattle.hs_records.specs.declared.journal.Step.TheVariants as steps
use Rattle.hs_law_journal.specs.Following as following
use Rattle.hs_replay.specs.declared.queue.Queue.{Queue}
use Rattle.hs_replay.specs.declared.queue.Queue.TheVariants as queues

abbrev pub queue_of : Queue → following.Queue
queue_of (queues.Chunks client) = following.Chunks client
queue_of (queues.Crumbs client) = following.Crumbs client
queue_of (queues.Triggers client) = following.Triggers client
queue_of queues.Asks = following.Asks

-- the step that takes from the queue
abbrev pub step_from : Queue → Step
step_from (queues.Chunks client) = steps.Chunk client
step_from (queues.Crumbs client) = steps.Crumb client
step_from (queues.Triggers client) = steps.Trigger client
step_from queues.Asks = steps.Ask

-- the client whose queue it is, if it is one's, is among so many
abbrev pub IsQueueOf : ℕ → Queue → Type 0
IsQueueOf clients (queues.Chunks client) = client < clients
IsQueueOf clients (queues.Crumbs client) = client < clients
IsQueueOf clients (queues.Triggers client) = client < clients
IsQueueOf clients queues.Asks = Unit {0}
