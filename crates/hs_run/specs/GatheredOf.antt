-- The books that are gathered of a run, by what its nodes left and what its coordinator heard.
use Rattle.std.specs.Prelude.{◌≡◌, List, Result, IfOk, map}
use Rattle.hs_base.specs.Listing.{Listing}
use Rattle.hs_base.specs.declared.ids.NodeId.{NodeId}
use Rattle.hs_base.specs.declared.ids.Memory.{Memory}
use Rattle.hs_coord.specs.Messages.{Messages}
use Rattle.hs_records.specs.Books.{agent_book_of}
use Rattle.hs_records.specs.declared.books.AgentBook.{AgentBook}
use Rattle.hs_records.specs.Plain.{PlainWorkload}
use Rattle.hs_outcome.specs.declared.outcome.Books.{Books}
use Rattle.hs_run_actors.specs.Coordinators.{PlainCoordinatorActor, Tellings, Askings, IsCoordinatorActor}
use Rattle.hs_records.specs.declared.operation.Workload.{Workload}
use Rattle.hs_run.specs.Ended.{HaveFinished, items_of}
use Rattle.hs_run.specs.Finished.{AreGathered}
use Rattle.hs_run.specs.declared.shutting.ClosedNodes.{ClosedNodes}

-- The clients' books are those that they left, the agents' are of closed pools, and the nodes are those of the heard messages.
pub record AreGatheredOf (w : Workload) (ended : ClosedNodes) (coordinator : PlainCoordinatorActor) (books : Books) : Type 0 where
  pub agents : Result (Listing AgentBook) Memory
  pub told : Result (Listing NodeId) Memory
  pub gathered : AreGathered w ended.books agents told books
  pub finished : IfOk agents (λ (l : Listing AgentBook). HaveFinished ended.nodes.items (items_of ended.drawers.items) (map agent_book_of l.items))
  pub heard : (W : PlainWorkload) (heard : Messages) (moved : Tellings) (asked : Askings) → IsCoordinatorActor W heard moved asked coordinator → IfOk told (λ (l : Listing NodeId). l.items ≡ map (λ m. m.node) heard)
