-- All nodes and the coordinator where a run of the journal stands, in whatever order its steps came; and what one step more does to them.
use Rattle.std.specs.Prelude.{◌≡◌, ℕ, ◌+◌, ◌-◌, ◌<◌, ◌≤◌, Bool, true, false, if◌then◌else◌, List, [], ◌∷◌, ◌++◌, length, drop, slice_get, Some, None, count_by}
use Rattle.hs_base.specs.Listing.{Listing}
use Rattle.hs_base.specs.NodeSets.{has_node}
use Rattle.hs_base.specs.declared.ids.NodeId.{NodeId}
use Rattle.hs_base.specs.declared.told.Ask.{Ask}
use Rattle.hs_check_follow.specs.Finding.{AreAsked}
use Rattle.hs_coord.specs.Following.{Messages}
use Rattle.hs_coord.specs.Kept.{HasTaken}
use Rattle.hs_coord.specs.declared.asks.Asks.{Asks}
use Rattle.hs_records.specs.Journals.{PlainJournal}
use Rattle.hs_records.specs.declared.journal.Step.{Step}
use Rattle.hs_law_journal.specs.Following.{log_at, asks_to, is_from, NodeRun, Run, run_start, step_node, hear, followed}
use Rattle.hs_law_journal.specs.Orders.{Leads, IsAtRest, Performs}
use Rattle.hs_law_agent.specs.Leading.{IsToldBelow}
use Rattle.hs_records.specs.Plain.{PlainWorkload}
use Rattle.hs_records.specs.Validity.{IsValid}
use Rattle.std.specs.List.{AllByRecursion}
use Rattle.hs_check_follow.specs.Nodes.{MayTakeNext, FollowedNodeStands}
use Rattle.hs_check_follow.specs.Noting.{HasNotes}
use Rattle.hs_check_follow.specs.declared.agent.FollowedAgent.{FollowedAgent}
use Rattle.hs_check_follow.specs.declared.node.FollowedNode.{FollowedNode}
use Rattle.hs_check_follow.specs.declared.coordinator.FollowedCoordinator.{FollowedCoordinator}
use Rattle.hs_check_follow.specs.declared.run.FollowedRun.{FollowedRun}

-- ---- a node

-- The parts of a node stand where its run does, and what is left of its log is behind the steps that were performed.
pub record NodeAt (W : PlainWorkload) (J : PlainJournal) (run : NodeRun) (t : FollowedNode) : Type 0 where
  pub stands : FollowedNodeStands W J run run.state.log t.follower
  pub left : run.left ≡ drop t.next (log_at J run.node)
  pub notes : HasNotes W.settings run (log_at J run.node) t

-- where the parts of a node stand
abbrev pub KnowsFollowedAgent : FollowedAgent → Type 0
KnowsFollowedAgent f = (W : PlainWorkload) × (J : PlainJournal) × (run : NodeRun) × (log : List Step) × FollowedNodeStands W J run log f

-- the next step may be taken, whichever it is
abbrev pub MayTakeAny : PlainWorkload → Messages → NodeRun → Type 0
MayTakeAny W heard run = (step : Step) → MayTakeNext W heard run step

pub record MayStepAt (W : PlainWorkload) (J : PlainJournal) (heard : Messages) (run : NodeRun) (log : List Step) (asks : List Ask) (t : FollowedNode) : Type 0 where
  pub log_is : log ≡ log_at J run.node
  pub asks_are : asks ≡ asks_to run.node heard
  pub at : NodeAt W J run t
  pub may : MayTakeAny W heard run

-- The next step of the node was performed, or it is not ready.
pub record HasStepped (W : PlainWorkload) (J : PlainJournal) (heard : Messages) (run : NodeRun) (t : FollowedNode) : Type 0 where
  pub next : NodeRun
  pub ready : step_node W.settings heard run ≡ Some next
  pub at : NodeAt W J next t

pub record HasNotStepped (W : PlainWorkload) (J : PlainJournal) (heard : Messages) (run : NodeRun) (t : FollowedNode) : Type 0 where
  pub none : step_node W.settings heard run ≡ None
  pub at : NodeAt W J run t

abbrev pub SteppedIf : PlainWorkload → PlainJournal → Messages → NodeRun → FollowedNode → Bool → Type 0
SteppedIf W J heard run t true = HasStepped W J heard run t
SteppedIf W J heard run t false = HasNotStepped W J heard run t

-- how far it went: one step, which was there, or none
abbrev pub WentIf : List Step → FollowedNode → FollowedNode → Bool → Type 0
WentIf log old new true = (old.next < length log) × (new.next ≡ old.next + 1)
WentIf log old new false = new.next ≡ old.next

abbrev pub MayStep : PlainWorkload → List Step → List Ask → FollowedNode → Type 0
MayStep W log asks t = (J : PlainJournal) × (heard : Messages) × (run : NodeRun) × MayStepAt W J heard run log asks t

abbrev pub StepsOn : PlainWorkload → List Step → List Ask → FollowedNode → FollowedNode → Bool → Type 0
StepsOn W log asks old new done =
    WentIf log old new done × ((J : PlainJournal) (heard : Messages) (run : NodeRun) → MayStepAt W J heard run log asks old → SteppedIf W J heard run new done)

-- ---- the coordinator

-- The coordinator heard the messages of the run, and asked what these lead to. What is left to hear is behind them.
pub record FollowedCoordinatorAt (W : PlainWorkload) (J : PlainJournal) (heard : Messages) (left : List NodeId) (h : FollowedCoordinator) : Type 0 where
  pub taken : HasTaken h.coordinator heard
  pub nodes : h.coordinator.nodes ≡ W.settings.nodes
  pub lists : length h.asks.items ≡ W.settings.nodes
  pub asks : (n : ℕ) (list : Listing Ask) → slice_get h.asks.items n ≡ Some list → list.items ≡ asks_to n heard
  pub many : length h.counts.items ≡ W.settings.nodes
  pub counts : (n count : ℕ) → slice_get h.counts.items n ≡ Some count → count ≡ count_by (is_from (record { 0 = n })) heard
  pub left_is : left ≡ drop h.next J.told
  pub asked : AreAsked W.settings.nodes [] heard h.asked.items

-- the asks that went to a node, with this one where it goes there
abbrev pub sent_by : Asks → ℕ → List Ask → List Ask
sent_by asks n list = if has_node asks.to n then list ++ asks.ask ∷ [] else list

-- The ask went to the nodes of the first so many to which it goes, and all else stayed.
pub record AreSent (asks : Asks) (first : ℕ) (old new : List (Listing Ask)) : Type 0 where
  pub count : length new ≡ length old
  pub before : (n : ℕ) (list : Listing Ask) → slice_get new n ≡ Some list → n < first → (was : Listing Ask) × (slice_get old n ≡ Some was) × (list.items ≡ sent_by asks n was.items)
  pub behind : (n : ℕ) (list : Listing Ask) → slice_get new n ≡ Some list → first ≤ n → slice_get old n ≡ Some list

-- ---- all of them

-- The nodes stand where a run does.
pub record NodesAt (W : PlainWorkload) (J : PlainJournal) (run : Run) (nodes : List FollowedNode) : Type 0 where
  pub count : length nodes ≡ length run.nodes
  pub many : length nodes ≡ W.settings.nodes
  pub each : (n : ℕ) (node : NodeRun) (t : FollowedNode) → slice_get run.nodes n ≡ Some node → slice_get nodes n ≡ Some t → NodeAt W J node t

-- All stand where a run of the journal does.
pub record AllAt (W : PlainWorkload) (J : PlainJournal) (run : Run) (nodes : List FollowedNode) (h : FollowedCoordinator) : Type 0 where
  pub valid : IsValid W
  pub logs : length J.logs ≡ W.settings.nodes
  pub leads : Leads W.settings (run_start W J) run
  pub nodes_are : NodesAt W J run nodes
  pub hearing : FollowedCoordinatorAt W J run.heard run.left h

-- ---- hearing

-- what the nodes told leads to nodes that there are
abbrev pub TellBelow : PlainWorkload → Run → Type 0
TellBelow W run = (n : ℕ) (node : NodeRun) → slice_get run.nodes n ≡ Some node → AllByRecursion (IsToldBelow W.settings.nodes) node.state.said

pub record MayHearAt (W : PlainWorkload) (J : PlainJournal) (run : Run) (told : List NodeId) (nodes : List FollowedNode) (h : FollowedCoordinator) : Type 0 where
  pub valid : IsValid W
  pub told_is : told ≡ J.told
  pub nodes_are : NodesAt W J run nodes
  pub hearing : FollowedCoordinatorAt W J run.heard run.left h
  pub below : TellBelow W run

pub record HasHeard (W : PlainWorkload) (J : PlainJournal) (run : Run) (h : FollowedCoordinator) : Type 0 where
  pub next : Run
  pub ready : hear run run.left ≡ Some next
  pub same : next.nodes ≡ run.nodes
  pub hearing : FollowedCoordinatorAt W J next.heard next.left h

pub record HasNotHeard (W : PlainWorkload) (J : PlainJournal) (run : Run) (h : FollowedCoordinator) : Type 0 where
  pub none : hear run run.left ≡ None
  pub hearing : FollowedCoordinatorAt W J run.heard run.left h

abbrev pub HeardIf : PlainWorkload → PlainJournal → Run → FollowedCoordinator → Bool → Type 0
HeardIf W J run h true = HasHeard W J run h
HeardIf W J run h false = HasNotHeard W J run h

abbrev pub HeardOn : List NodeId → FollowedCoordinator → FollowedCoordinator → Bool → Type 0
HeardOn told old new true = (old.next < length told) × (new.next ≡ old.next + 1)
HeardOn told old new false = new.next ≡ old.next

abbrev pub MayHear : List NodeId → List FollowedNode → FollowedCoordinator → Type 0
MayHear told nodes h = (W : PlainWorkload) × (J : PlainJournal) × (run : Run) × MayHearAt W J run told nodes h

abbrev pub HearsOn : List NodeId → List FollowedNode → FollowedCoordinator → FollowedCoordinator → Bool → Type 0
HearsOn told nodes old new done =
    HeardOn told old new done × ((W : PlainWorkload) (J : PlainJournal) (run : Run) → MayHearAt W J run told nodes old → HeardIf W J run new done)

-- ---- steps of the whole

abbrev pub Knows : PlainJournal → FollowedRun → Type 0
Knows J f = (W : PlainWorkload) × (run : Run) × AllAt W J run f.nodes.items f.hearing

-- for this workload
abbrev pub KnowsAt : PlainWorkload → PlainJournal → FollowedRun → Type 0
KnowsAt W J f = (run : Run) × AllAt W J run f.nodes.items f.hearing

-- how many steps are left of the logs behind those that were performed
abbrev pub left_steps : List FollowedNode → List (List Step) → ℕ
left_steps [] logs = 0
left_steps (t ∷ nodes) [] = left_steps nodes []
left_steps (t ∷ nodes) (log ∷ logs) = (length log - t.next) + left_steps nodes logs

abbrev pub left_of : PlainJournal → FollowedRun → ℕ
left_of J f = left_steps f.nodes.items J.logs + (length J.told - f.hearing.next)

-- A node performed its next step, or it is not ready.
pub record NodeStepped (W : PlainWorkload) (J : PlainJournal) (run : Run) (old f : FollowedRun) : Type 0 where
  pub next : Run
  pub performs : Performs W.settings run next
  pub at : AllAt W J next f.nodes.items f.hearing
  pub falls : left_of J f < left_of J old

pub record NodeNotReady (W : PlainWorkload) (J : PlainJournal) (run : Run) (n : ℕ) (old f : FollowedRun) : Type 0 where
  pub at : AllAt W J run f.nodes.items f.hearing
  pub stays : left_of J f ≡ left_of J old
  pub count : length f.nodes.items ≡ length old.nodes.items
  pub none : (node : NodeRun) → slice_get run.nodes n ≡ Some node → step_node W.settings run.heard node ≡ None

abbrev pub NodeSteppedIf : PlainWorkload → PlainJournal → Run → ℕ → FollowedRun → FollowedRun → Bool → Type 0
NodeSteppedIf W J run n old f true = NodeStepped W J run old f
NodeSteppedIf W J run n old f false = NodeNotReady W J run n old f

abbrev pub StepsNode : PlainWorkload → PlainJournal → ℕ → FollowedRun → FollowedRun → Bool → Type 0
StepsNode W J n old f done = (run : Run) → AllAt W J run old.nodes.items old.hearing → NodeSteppedIf W J run n old f done

-- Some step was performed, or none is ready.
pub record NothingIsReady (W : PlainWorkload) (J : PlainJournal) (run : Run) (f : FollowedRun) : Type 0 where
  pub at : AllAt W J run f.nodes.items f.hearing
  pub rests : IsAtRest W.settings run

abbrev pub SteppedAnyIf : PlainWorkload → PlainJournal → Run → FollowedRun → FollowedRun → Bool → Type 0
SteppedAnyIf W J run old f true = NodeStepped W J run old f
SteppedAnyIf W J run old f false = NothingIsReady W J run f

abbrev pub StepsAny : PlainWorkload → PlainJournal → FollowedRun → FollowedRun → Bool → Type 0
StepsAny W J old f done = (run : Run) → AllAt W J run old.nodes.items old.hearing → SteppedAnyIf W J run old f done

-- All stand where following the journal leads.
abbrev pub FollowsAll : PlainWorkload → PlainJournal → FollowedRun → FollowedRun → Type 0
FollowsAll W J old f = (run : Run) → AllAt W J run old.nodes.items old.hearing → AllAt W J (followed W J) f.nodes.items f.hearing
