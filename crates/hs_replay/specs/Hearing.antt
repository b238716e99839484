-- What a message does between a node and the coordinator: it leaves its node, and the asks to which it leads go to theirs.
use Rattle.std.specs.Prelude.{◌≡◌, ℕ, ◌-◌, ◌<◌, ◌≤◌, Bool, true, false, if◌then◌else◌, min, List, [], ◌∷◌, ◌++◌, length, replicate, Option, Some, None, slice_get, count_by, take}
use Rattle.std.specs.List.{flat_map}
use Rattle.hs_base.specs.NodeSets.{has_node}
use Rattle.hs_base.specs.declared.ids.NodeId.{NodeId}
use Rattle.hs_base.specs.declared.limits.TheConstants.{MAX_TAKEN}
use Rattle.hs_base.specs.declared.told.Ask.{Ask}
use Rattle.hs_base.specs.declared.told.Told.{Told}
use Rattle.hs_coord.specs.Following.{Messages}
use Rattle.hs_coord.specs.Kept.{PlainCoordinator}
use Rattle.hs_coord.specs.declared.asks.Asks.{Asks}
use Rattle.hs_records.specs.Plain.{PlainWorkload}
use Rattle.hs_law_journal.specs.Following.{NodeRun, is_from, message_of, followed}
use Rattle.hs_law_run.specs.Lockstep.{Machine, told_of}
use Rattle.hs_law_run.specs.Parts.{node_at, heard_in}
use Rattle.hs_law_journal.specs.Performing.{after_names}
use Rattle.hs_replay.specs.All.{AllHeard}
use Rattle.hs_replay.specs.Parts.{PlainReplayNode}

-- ---- one node

-- the node with an ask that waits behind the others
abbrev pub with_ask : Ask → PlainReplayNode → PlainReplayNode
with_ask ask node = record node { asks = node.asks ++ ask ∷ [] }

-- the node with a message that waits before the others
abbrev pub with_told : Told → PlainReplayNode → PlainReplayNode
with_told told node = record node { said = told ∷ node.said }

-- The first message was taken out, or there was none.
abbrev pub TellsNext : PlainReplayNode → Option Told → PlainReplayNode → Type 0
TellsNext old None new = (old.said ≡ []) × (new ≡ old)
TellsNext old (Some told) new = old ≡ with_told told new

-- ---- all nodes

-- the node of a number with the ask, where it is one of those to which the ask goes
abbrev pub asked_by : Asks → ℕ → PlainReplayNode → PlainReplayNode
asked_by asks n node = if has_node asks.to n then with_ask asks.ask node else node

-- The ask went to the nodes of the first so many to which it goes, and all else stayed.
pub record AreAsked (asks : Asks) (first : ℕ) (old new : List PlainReplayNode) : Type 0 where
  pub count : length new ≡ length old
  pub before : (n : ℕ) (node : PlainReplayNode) → slice_get old n ≡ Some node → n < first → slice_get new n ≡ Some (asked_by asks n node)
  pub behind : (n : ℕ) (node : PlainReplayNode) → slice_get old n ≡ Some node → first ≤ n → slice_get new n ≡ Some node

-- ---- the coordinator

-- the name of a node
abbrev pub name_of : ℕ → NodeId
name_of n = record { 0 = n }

-- The coordinator heard so many messages more of a node, one after another.
pub record HeardOf (W : PlainWorkload) (m : Machine) (heard : Messages) (n count : ℕ) (nodes : List PlainReplayNode) (coordinator : PlainCoordinator) : Type 0 where
  pub next : Messages
  pub by : after_names (followed W m.journal).nodes (replicate count (name_of n)) heard ≡ Some next
  pub all : AllHeard W m next nodes coordinator

-- The node has no message more.
pub record IsHeardOut (W : PlainWorkload) (m : Machine) (heard : Messages) (n : ℕ) (nodes : List PlainReplayNode) (coordinator : PlainCoordinator) : Type 0 where
  pub none : message_of (followed W m.journal).nodes heard (name_of n) ≡ None
  pub all : AllHeard W m heard nodes coordinator

-- The coordinator heard the next message of a node, if there was one.
abbrev pub HearsNext : PlainWorkload → Machine → Messages → ℕ → List PlainReplayNode → PlainCoordinator → Bool → Type 0
HearsNext W m heard n nodes coordinator true = HeardOf W m heard n 1 nodes coordinator
HearsNext W m heard n nodes coordinator false = IsHeardOut W m heard n nodes coordinator

-- how many messages of a node wait, but at most so many as are heard in a pass
abbrev pub waiting : Messages → ℕ → NodeRun → ℕ
waiting heard n run = min (length run.state.said - count_by (is_from (name_of n)) heard) MAX_TAKEN

-- The coordinator heard what waited of a node, but at most so much as it hears in a pass.
pub record HearsNode (W : PlainWorkload) (m : Machine) (heard : Messages) (n : ℕ) (nodes : List PlainReplayNode) (coordinator : PlainCoordinator) : Type 0 where
  pub run : NodeRun
  pub at : node_at W m.journal n ≡ Some run
  pub heard_of : HeardOf W m heard n (waiting heard n run) nodes coordinator

-- The coordinator heard the first so many nodes, one after another.
pub record HeardUpTo (W : PlainWorkload) (m : Machine) (first : ℕ) (nodes : List PlainReplayNode) (coordinator : PlainCoordinator) : Type 0 where
  pub next : Messages
  pub by : after_names (followed W m.journal).nodes (flat_map (told_of (followed W m.journal)) (take first (followed W m.journal).nodes)) (heard_in W m.journal) ≡ Some next
  pub all : AllHeard W m next nodes coordinator
