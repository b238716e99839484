-- All nodes and the coordinator, where the machine stands.
use Rattle.std.specs.Prelude.{◌≡◌, ℕ, Bool, true, false, ◌*◌, ◌<◌, ◌≤◌, List, length, fold, Some, slice_get}
use Rattle.std.specs.List.{range_with_len}
use Rattle.hs_coord.specs.Following.{Messages}
use Rattle.hs_coord.specs.Kept.{PlainCoordinator, HasTaken}
use Rattle.hs_records.specs.Plain.{PlainWorkload}
use Rattle.hs_records.specs.Validity.{IsValid}
use Rattle.hs_law_journal.specs.Ends.{is_bare}
use Rattle.hs_law_journal.specs.Played.{played}
use Rattle.hs_law_run.specs.Ending.{AllDone}
use Rattle.hs_law_run.specs.Lockstep.{Machine, client_goes, lockstep}
use Rattle.hs_law_run.specs.Parts.{heard_in}
use Rattle.hs_law_run.specs.Reaching.{IsReached}
use Rattle.hs_replay.specs.Parts.{PlainReplayNode}
use Rattle.hs_replay.specs.Standing.{NodeIsHeard, NodeIsAt}

-- Each node is where the machine says, when the coordinator has heard these messages.
pub record NodesAreHeard (W : PlainWorkload) (m : Machine) (heard : Messages) (nodes : List PlainReplayNode) : Type 0 where
  pub count : length nodes ≡ W.settings.nodes
  pub each : (n : ℕ) (node : PlainReplayNode) → slice_get nodes n ≡ Some node → NodeIsHeard W m heard n node

-- The coordinator has heard these messages, of so many nodes.
pub record HasHeard (W : PlainWorkload) (heard : Messages) (coordinator : PlainCoordinator) : Type 0 where
  pub taken : HasTaken coordinator heard
  pub nodes : coordinator.nodes ≡ W.settings.nodes

-- The machine is one of a valid workload on its way, and all stand where it says when these messages were heard.
pub record AllHeard (W : PlainWorkload) (m : Machine) (heard : Messages) (nodes : List PlainReplayNode) (coordinator : PlainCoordinator) : Type 0 where
  pub valid : IsValid W
  pub reached : IsReached W m
  pub nodes_are : NodesAreHeard W m heard nodes
  pub coordinator_is : HasHeard W heard coordinator

-- All stand where the machine says.
pub record AllAt (W : PlainWorkload) (m : Machine) (nodes : List PlainReplayNode) (coordinator : PlainCoordinator) : Type 0 where
  pub valid : IsValid W
  pub reached : IsReached W m
  pub nodes_are : NodesAreHeard W m (heard_in W m.journal) nodes
  pub coordinator_is : HasHeard W (heard_in W m.journal) coordinator

-- Each node is where the machine says, and nobody asks where the coordinator is.
pub record NodesAt (W : PlainWorkload) (m : Machine) (nodes : List PlainReplayNode) : Type 0 where
  pub valid : IsValid W
  pub reached : IsReached W m
  pub nodes_are : NodesAreHeard W m (heard_in W m.journal) nodes

-- the machine when the clients of the first so many nodes went
abbrev pub clients_gone : PlainWorkload → Machine → ℕ → Machine
clients_gone W m first = fold (client_goes W) m (range_with_len 0 (first * W.settings.clients))

-- Of these nodes the first so many are where one machine says, and the others where another does.
pub record NodesBetween (W : PlainWorkload) (m next : Machine) (first : ℕ) (nodes : List PlainReplayNode) : Type 0 where
  pub valid : IsValid W
  pub reached : IsReached W m
  pub count : length nodes ≡ W.settings.nodes
  pub before : (n : ℕ) (node : PlainReplayNode) → slice_get nodes n ≡ Some node → n < first → NodeIsAt W next n node
  pub behind : (n : ℕ) (node : PlainReplayNode) → slice_get nodes n ≡ Some node → first ≤ n → NodeIsAt W m n node

-- Clients have operations left, or all are through.
abbrev pub TellsLeft : PlainWorkload → Machine → Bool → Type 0
TellsLeft W m true = AllDone W m → ⊥
TellsLeft W m false = AllDone W m

-- All stand where the schedule ends: nothing waits any more, and the journal is the schedule's.
pub record AllClosed (W : PlainWorkload) (nodes : List PlainReplayNode) (coordinator : PlainCoordinator) : Type 0 where
  pub last : Machine
  pub journal : last.journal ≡ lockstep W
  pub done : AllDone W last
  pub bare : is_bare (played W last.journal) ≡ true
  pub at : AllAt W last nodes coordinator
