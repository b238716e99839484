-- What is abandoned in a journal, event by event. An event of a node may pin more chunks than may be pinned: a chunk of a claimed trace,
-- a trigger that is admitted, an ask. Then groups are abandoned, one after another, until no more is pinned than may be. The next to go
-- is found in two steps. First the trigger id: the one whose groups pin the most chunks, and between equals the lower id. Then, of its
-- groups that pin a chunk, the one of least priority. It goes with all its pinned chunks. No event abandons anything else.
use Rattle.std.specs.Prelude.{◌≡◌, ◌⊎◌, ℕ, suc, ◌≤◌, List, [], ◌∷◌, length, map, Option, Some, slice_get, option_map, refl}
use Rattle.std.specs.List.{AllByRecursion}
use Rattle.std.specs.Option.{option_and_then}
use Rattle.hs_base.specs.declared.told.Group.{Group}
use Rattle.hs_base.specs.Samples.{twice}
use Rattle.hs_records.specs.Journals.{PlainJournal}
use Rattle.hs_law_agent.specs.Abandoning.{pinned_groups, next_to_go, abandon_group}
use Rattle.hs_law_agent.specs.Laws.{Abandons, Remains, Leaves}
use Rattle.hs_law_agent.specs.Standings.{ChunkStanding, Indexed, Pinned, Reported, Evicted, Abandoned, Taken}
use Rattle.hs_law_agent.specs.State.{AgentState}
use Rattle.hs_law_agent.specs.Stepping.{AgentEvent, after_event}
use Rattle.hs_records.specs.Plain.{PlainSettings, PlainWorkload}
use Rattle.hs_law_journal.specs.Following.{NodeRun, followed}
use Rattle.hs_law_journal.specs.Journals.{of_short_of_pins}
use Rattle.hs_law_journal.specs.Played.{state_behind}
use Rattle.hs_law_journal.specs.Workloads.{short_of_pins}

-- One event, from the state before it to the state behind it.
pub record AbandonsTheLeast (settings : PlainSettings) (node : ℕ) (before : AgentState) (event : AgentEvent) (behind : AgentState) : Type 0 where
  -- where the event leads if all that it pins may be pinned
  pub over : AgentState
  pub free : (limit : ℕ) → length over.pinned ≤ limit → after_event (record settings { pins = limit }) node before event ≡ over
  -- there it abandoned no group
  pub none : over.abandoned ≡ before.abandoned
  -- from there groups go while more is pinned than may be, and no longer, each time the one next to go
  pub goes : Abandons settings over behind

-- a group is one of those that go from one state to another
abbrev pub IsOneToGo : (settings : PlainSettings) (s later : AgentState) → Abandons settings s later → Group → Type 0
IsOneToGo settings s later (Remains u few) group = ⊥
IsOneToGo settings s later (Leaves u last other many next rest) group = (group ≡ other) ⊎ IsOneToGo settings (abandon_group other u) last rest group

-- how each event of a node abandons
abbrev pub EachAbandonsTheLeast : PlainSettings → NodeRun → Type 0
EachAbandonsTheLeast settings run =
    (n : ℕ) (event : AgentEvent) → slice_get run.events n ≡ Some event → AbandonsTheLeast settings run.node (state_behind settings run n) event (state_behind settings run (suc n))

-- A group is one of those that went in some event of the node.
pub record WasChosen (settings : PlainSettings) (run : NodeRun) (each : EachAbandonsTheLeast settings run) (group : Group) : Type 0 where
  pub n : ℕ
  pub event : AgentEvent
  pub there : slice_get run.events n ≡ Some event
  pub went : IsOneToGo settings (each n event there).over (state_behind settings run (suc n)) (each n event there).goes group

-- a chunk stands abandoned only for such a group
abbrev pub StandsForChosen : (Group → Type 0) → ChunkStanding → Type 0
StandsForChosen chosen Indexed = Unit {0}
StandsForChosen chosen (Pinned group) = Unit {0}
StandsForChosen chosen (Reported group) = Unit {0}
StandsForChosen chosen (Evicted chunks traces) = Unit {0}
StandsForChosen chosen (Abandoned group) = chosen group

-- All events of a node, from its start to its end.
pub record GivesWayInOrder (settings : PlainSettings) (run : NodeRun) : Type 0 where
  pub first : (state_behind settings run 0).abandoned ≡ []
  pub each : EachAbandonsTheLeast settings run
  pub last : state_behind settings run (length run.events) ≡ run.state
  -- behind each of them no more is pinned than may be
  pub within : (n : ℕ) → length (state_behind settings run n).pinned ≤ settings.pins
  -- and each chunk that stands abandoned in the end does so for a group that was chosen in one of them
  pub chosen : AllByRecursion (λ (chunk : Taken). StandsForChosen (WasChosen settings run each) chunk.standing) run.state.taken

-- Each node of a journal gives way so.
abbrev pub OnlyTheLeastIsAbandoned : Type 0
OnlyTheLeastIsAbandoned = (W : PlainWorkload) (J : PlainJournal) → AllByRecursion (GivesWayInOrder W.settings) (followed W J).nodes

-- ---- examples

-- Two nodes that may pin two chunks each, and three groups of one chunk. The sixth event of a node is its third trigger.
abbrev nodes : List NodeRun
nodes = (followed short_of_pins of_short_of_pins).nodes

abbrev settings : PlainSettings
settings = short_of_pins.settings

-- the leads of the groups that were abandoned behind so many events
abbrev gone_behind : ℕ → NodeRun → List ℕ
gone_behind n run = map (λ (group : Group). group.lead.0) (state_behind settings run n).abandoned

-- where that trigger leads if any number of chunks may be pinned
abbrev over_at : NodeRun → Option AgentState
over_at run = option_map (λ (event : AgentEvent). after_event (record settings { pins = 9 }) run.node (state_behind settings run 5) event) (slice_get run.events 5)

three_are_pinned : map (λ run. option_map (λ (over : AgentState). length over.pinned) (over_at run)) nodes ≡ Some 3 ∷ Some 3 ∷ []
three_are_pinned = refl

-- at both nodes the same one is next, though they admitted the three in opposite orders
one_is_next : map (λ run. option_and_then (λ (over : AgentState). option_map (λ (group : Group). group.lead.0) (next_to_go (pinned_groups over))) (over_at run)) nodes ≡ Some twice ∷ Some twice ∷ []
one_is_next = refl

and_goes_in_that_event : (map (gone_behind 5) nodes ≡ [] ∷ [] ∷ []) × (map (gone_behind 6) nodes ≡ (twice ∷ []) ∷ (twice ∷ []) ∷ [])
and_goes_in_that_event = (refl, refl)

-- nothing more goes, up to the end
no_other_goes : map (λ (run : NodeRun). map (λ (group : Group). group.lead.0) run.state.abandoned) nodes ≡ (twice ∷ []) ∷ (twice ∷ []) ∷ []
no_other_goes = refl
