-- The queues of a node as the code names them.
use Rattle.hs_law_journal.specs.Following.{Queue}
use Rattle.hs_law_journal.specs.Following as queues
use Rattle.hs_check_follow.specs.declared.sources.NodeQueue.{NodeQueue}
use Rattle.hs_check_follow.specs.declared.sources.NodeQueue.TheVariants as sources

abbrev pub queue_of : NodeQueue → Queue
queue_of (sources.Chunks client) = queues.Chunks client
queue_of (sources.Crumbs client) = queues.Crumbs client
queue_of (sources.Triggers client) = queues.Triggers client
queue_of sources.Asks = queues.Asks
