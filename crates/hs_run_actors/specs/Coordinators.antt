-- The coordinator in the rounds, as contracts see it, and what it is between them: of each node the messages that were brought to it
-- and not heard wait, and so do its asks since the last meeting.
use Rattle.std.specs.Prelude.{◌≡◌, ℕ, ◌+◌, ◌<◌, ◌≤◌, min, true, false, List, [], ◌∷◌, ◌++◌, length, map, filter, slice_get, slice_set, Option, Some, None, Bool, if◌then◌else◌, refl}
use Rattle.std.specs.List.{AllByRecursion, flat_map, list_all}
use Rattle.hs_base.specs.NodeSets.{has_node}
use Rattle.hs_base.specs.declared.limits.TheConstants.{MAX_TAKEN, MAX_NODES}
use Rattle.hs_base.specs.declared.told.Ask.{Ask}
use Rattle.hs_base.specs.declared.told.Told.{Told}
use Rattle.hs_coord.specs.Messages.{Message, Messages, message}
use Rattle.hs_coord.specs.Kept.{PlainCoordinator, HasTaken}
use Rattle.hs_coord.specs.declared.asks.Asks.{Asks}
use Rattle.hs_law_journal.specs.Following.{asks_to, is_from}
use Rattle.hs_records.specs.Plain.{PlainWorkload}
use Rattle.hs_run_actors.specs.Agents.{IsAskable, IsTellable}
use Rattle.hs_run_actors.specs.Work.{NodeWork, with_asks}

-- the messages, and the asks, of each node
abbrev pub Tellings : Type 0
Tellings = ℕ → List Told

abbrev pub Askings : Type 0
Askings = ℕ → List Ask

pub record PlainCoordinatorActor : Type 0 where
  pub kept : PlainCoordinator
  -- of each node
  pub told : List (List Told)
  pub asks : List Asks

-- how it lies in its parts
abbrev pub coordinator_actor_of : PlainCoordinator → List (List Told) → List Asks → PlainCoordinatorActor
coordinator_actor_of kept told asks = record { kept = kept; told = told; asks = asks }

abbrev pub is_empty : List Told → Bool
is_empty [] = true
is_empty (told ∷ others) = false

abbrev pub all_empty : List (List Told) → Bool
all_empty told = list_all is_empty told

-- what was heard of a node
abbrev pub heard_of : ℕ → Messages → List Told
heard_of node heard = map (λ (m : Message). m.told) (filter (is_from (record { 0 = node })) heard)

-- the ask for a node, where it goes there
abbrev pub ask_for : ℕ → Asks → List Ask
ask_for node asks = if has_node asks.to node then asks.ask ∷ [] else []

-- the asks for a node among those that wait
abbrev pub asks_for : ℕ → List Asks → List Ask
asks_for node asks = flat_map (ask_for node) asks

-- the works when asks went to the nodes for which they are
abbrev pub asked_all : List Asks → (ℕ → NodeWork) → ℕ → NodeWork
asked_all asks works node = with_asks (asks_for node asks) (works node)

-- a message of a node that there is, which may be heard
pub record IsHearable (W : PlainWorkload) (m : Message) : Type 0 where
  pub from : m.node.0 < W.settings.nodes
  pub told : IsTellable W m.told

-- Where these messages were heard: of each node these were brought, and these asks were fetched for it.
pub record IsCoordinatorActor (W : PlainWorkload) (heard : Messages) (moved : Tellings) (asked : Askings) (c : PlainCoordinatorActor) : Type 0 where
  pub few : W.settings.nodes ≤ MAX_NODES
  pub taken : HasTaken c.kept heard
  pub nodes : c.kept.nodes ≡ W.settings.nodes
  pub count : length c.told ≡ W.settings.nodes
  pub waits : (node : ℕ) (told : List Told) → slice_get c.told node ≡ Some told → heard_of node heard ++ told ≡ moved node
  pub hearable : AllByRecursion (IsHearable W) heard
  pub tellable : (node : ℕ) → node < W.settings.nodes → AllByRecursion (IsTellable W) (moved node)
  pub askable : AllByRecursion (λ (asks : Asks). IsAskable W asks.ask) c.asks
  pub asks_are : (node : ℕ) → node < W.settings.nodes → asks_to node heard ≡ asked node ++ asks_for node c.asks

-- They come of one node after another, in the order of the nodes.
abbrev pub AreInTurn : Messages → Type 0
AreInTurn [] = Unit {0}
AreInTurn (m ∷ more) = AllByRecursion (λ (later : Message). m.node.0 ≤ later.node.0) more × AreInTurn more

-- Of each node in turn the coordinator heard the messages that had been brought, all or as many as it hears in a pass.
pub record Hears (W : PlainWorkload) (heard more : Messages) (moved : Tellings) (asked : Askings) (new : PlainCoordinatorActor) : Type 0 where
  pub stands : IsCoordinatorActor W (heard ++ more) moved asked new
  pub few : (node : ℕ) → node < W.settings.nodes → length (heard_of node more) ≤ MAX_TAKEN
  pub all : (node : ℕ) → node < W.settings.nodes → min (length (heard_of node heard) + MAX_TAKEN) (length (moved node)) ≤ length (heard_of node (heard ++ more))
  pub turns : AreInTurn more

-- Of one node the coordinator heard messages that had been brought, all or as many as it hears in a pass.
pub record HearsNode (W : PlainWorkload) (heard : Messages) (moved : Tellings) (asked : Askings) (node : ℕ) (new : PlainCoordinatorActor) : Type 0 where
  pub more : List Told
  pub few : length more ≤ MAX_TAKEN
  pub all : min (length (heard_of node heard) + MAX_TAKEN) (length (moved node)) ≤ length (heard_of node heard) + length more
  pub stands : IsCoordinatorActor W (heard ++ map (message (record { 0 = node })) more) moved asked new

-- ---- between rounds

-- Messages of a node were moved behind those before them.
pub record AreMoved (node : ℕ) (told : List Told) (moved moved' : Tellings) : Type 0 where
  pub here : moved' node ≡ moved node ++ told
  pub others : (other : ℕ) → (other ≡ node → ⊥) → moved' other ≡ moved other

-- The coordinator stands where these messages of a node were moved too.
pub record Brings (W : PlainWorkload) (node : ℕ) (told : List Told) (old new : PlainCoordinatorActor) : Type 0 where
  pub by : (heard : Messages) (moved moved' : Tellings) (asked : Askings) → IsCoordinatorActor W heard moved asked old → AreMoved node told moved moved' → IsCoordinatorActor W heard moved' asked new

-- Every ask may be asked.
abbrev pub AllAskable : PlainWorkload → List Asks → Type 0
AllAskable W asks = AllByRecursion (λ (a : Asks). IsAskable W a.ask) asks

-- Asks were fetched for the nodes to which they go.
abbrev pub AreFetched : PlainWorkload → List Asks → Askings → Askings → Type 0
AreFetched W asks asked asked' = (node : ℕ) → node < W.settings.nodes → asked' node ≡ asked node ++ asks_for node asks

-- ---- queues

-- The first message was taken out, or there was none.
abbrev pub IsTaken : List Told → Option Told → List Told → Type 0
IsTaken old (Some told) new = old ≡ told ∷ new
IsTaken old None new = (old ≡ []) × (new ≡ old)

-- The same of the messages of one node.
abbrev pub IsTakenOut : ℕ → List (List Told) → Option Told → List (List Told) → Type 0
IsTakenOut node old (Some told) new = (rest : List Told) × (slice_get old node ≡ Some (told ∷ rest)) × (new ≡ slice_set old node rest)
IsTakenOut node old None new = (slice_get old node ≡ Some []) × (new ≡ old)

-- Messages were put behind the others of a node.
abbrev pub ArePutBehind : ℕ → List Told → List (List Told) → List (List Told) → Type 0
ArePutBehind node told old new = (queue : List Told) × (slice_get old node ≡ Some queue) × (new ≡ slice_set old node (queue ++ told))

-- ---- examples

two_queues : IsTakenOut 1 ([] ∷ [] ∷ []) None ([] ∷ [] ∷ [])
two_queues = (refl, refl)

none_wait : (all_empty ([] ∷ [] ∷ []) ≡ true) × (all_empty [] ≡ true)
none_wait = (refl, refl)
