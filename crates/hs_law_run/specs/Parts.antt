-- What each part of a round does to the run that is followed, node by node: a client's turn, what the agents take, what they give, and
-- what the coordinator hears.
use Rattle.std.specs.Prelude.{◌≡◌, ◌≢◌, ℕ, ◌+◌, ◌-◌, ◌<◌, ◌^◌, min, List, [], ◌∷◌, ◌++◌, length, map, drop, take, reverse, Option, Some, slice_get}
use Rattle.std.specs.List.{flat_map}
use Rattle.hs_coord.specs.Following.{Messages}
use Rattle.hs_records.specs.declared.journal.Draw.{Draw}
use Rattle.hs_records.specs.Journals.{PlainJournal}
use Rattle.hs_records.specs.Plain.{PlainWorkload}
use Rattle.hs_client.specs.Draws.{draws_behind}
use Rattle.hs_client.specs.Sending.{draws_at, node_sends, operations_at, place_of}
use Rattle.hs_words.specs.PoolHistory.{Given, MayFollow}
use Rattle.hs_records.specs.Validity.{IsValid}
use Rattle.hs_law_journal.specs.Following.{NodeRun, followed}
use Rattle.hs_law_journal.specs.Pooled.{event_drawn, given_buffer, pool_events, pool_history}
use Rattle.hs_law_run.specs.Lockstep.{Machine, done_at, pages_started, client_goes, pass_steps, give_steps, agents_take, agents_give, told_of, coordinator_hears}
use Rattle.hs_law_journal.specs.Performing.{after_steps, after_names}
use Rattle.hs_law_run.specs.Reaching.{IsReached}

-- the node of a number in the run that is followed
abbrev pub node_at : PlainWorkload → PlainJournal → ℕ → Option NodeRun
node_at W J i = slice_get (followed W J).nodes i

-- the messages that were heard in it
abbrev pub heard_in : PlainWorkload → PlainJournal → Messages
heard_in W J = (followed W J).heard

-- ---- a client's turn

-- how many operations the client at a place has done behind its next turn, and how many pages that turn starts
abbrev pub next_done : PlainWorkload → Machine → ℕ → ℕ
next_done W m place = min (done_at m place + W.settings.stride) (length (operations_at W place))

abbrev pub next_pages : PlainWorkload → Machine → ℕ → ℕ
next_pages W m place = pages_started W place (next_done W m place) - pages_started W place (done_at m place)

-- what the client at a place draws where its node stands so
abbrev pub next_drawn : PlainWorkload → Machine → ℕ → NodeRun → List Draw
next_drawn W m place run = draws_behind W.settings.buffers (pool_history run) (next_pages W m place)

-- a node whose clients send what they send in this journal
abbrev pub sending : PlainWorkload → PlainJournal → ℕ → NodeRun → NodeRun
sending W J i run = record run { sends = node_sends W J i }

-- The client at this place, which is one of the node of number i, does its next operations: its draws come behind what happened at the
-- pool of the node, and all else stands as it stood.
pub record ClientGoes (W : PlainWorkload) (m new : Machine) (i place : ℕ) (run : NodeRun) : Type 0 where
  pub done : done_at new place ≡ next_done W m place
  pub draws : draws_at new.journal place ≡ draws_at m.journal place ++ next_drawn W m place run
  pub others_done : (other : ℕ) → place ≢ other → done_at new other ≡ done_at m other
  pub others_draws : (other : ℕ) → place ≢ other → draws_at new.journal other ≡ draws_at m.journal other
  pub node : node_at W new.journal i ≡ Some (sending W new.journal i run)
  pub history : pool_history (sending W new.journal i run) ≡ pool_history run ++ map event_drawn (next_drawn W m place run)
  pub stamps : length (pool_history run) + next_pages W m place < 2 ^ 32
  pub others : (j : ℕ) → i ≢ j → node_at W new.journal j ≡ node_at W m.journal j
  pub heard : heard_in W new.journal ≡ heard_in W m.journal

abbrev pub ClientsGoSo : Type 0
ClientsGoSo =
    (W : PlainWorkload) → IsValid W → (m : Machine) → IsReached W m → (i number : ℕ) (run : NodeRun) → number < W.settings.clients → node_at W m.journal i ≡ Some run
    → ClientGoes W m (client_goes W m (place_of W.settings.clients i number)) i (place_of W.settings.clients i number) run

-- ---- what the agents take

-- An agent takes what waits for it and makes its turn: all these steps are ready when their turn comes.
pub record AgentTakes (W : PlainWorkload) (m new : Machine) (i : ℕ) (run : NodeRun) : Type 0 where
  pub later : NodeRun
  pub node : node_at W new.journal i ≡ Some later
  pub takes : after_steps W.settings (heard_in W m.journal) (pass_steps W m (followed W m.journal) run) run ≡ Some later
  pub history : pool_history later ≡ pool_history run
  pub heard : heard_in W new.journal ≡ heard_in W m.journal

abbrev pub AgentsTakeSo : Type 0
AgentsTakeSo =
    (W : PlainWorkload) → IsValid W → (m : Machine) → IsReached W m → (i : ℕ) (run : NodeRun) → node_at W m.journal i ≡ Some run → AgentTakes W m (agents_take W m) i run

-- ---- what they give

-- A give of the chunk at the front of the hand, which may be given, with the next stamp: the buffer of its page goes back to the pool.
pub record GivesNext (W : PlainWorkload) (m : Machine) (run before : NodeRun) (given : ℕ) : Type 0 where
  pub hand : before.state.hand ≡ drop given run.state.hand
  pub stamp : length (pool_history before) ≡ length (pool_events run) + given
  pub few : length (pool_history before) < 2 ^ 32
  pub place : ℕ
  pub first : slice_get before.state.hand 0 ≡ Some place
  pub buffer : ℕ
  pub is : given_buffer before place ≡ Some buffer
  pub may : MayFollow W.settings.buffers (reverse (pool_history before)) (Given buffer)
  pub next : NodeRun
  pub gives : after_steps W.settings (heard_in W m.journal) (take (given + 1) (give_steps run)) run ≡ Some next
  pub history : pool_history next ≡ pool_history before ++ Given buffer ∷ []

-- An agent gives all that is in its hand.
pub record AgentGives (W : PlainWorkload) (m new : Machine) (i : ℕ) (run : NodeRun) : Type 0 where
  pub later : NodeRun
  pub node : node_at W new.journal i ≡ Some later
  pub gives : after_steps W.settings (heard_in W m.journal) (give_steps run) run ≡ Some later
  pub each : (given : ℕ) (before : NodeRun) → given < length run.state.hand → after_steps W.settings (heard_in W m.journal) (take given (give_steps run)) run ≡ Some before → GivesNext W m run before given
  pub emptied : later.state.hand ≡ []
  pub heard : heard_in W new.journal ≡ heard_in W m.journal

abbrev pub AgentsGiveSo : Type 0
AgentsGiveSo =
    (W : PlainWorkload) → IsValid W → (m : Machine) → IsReached W m → (i : ℕ) (run : NodeRun) → node_at W m.journal i ≡ Some run → AgentGives W m (agents_give W m) i run

-- ---- what the coordinator hears

-- The coordinator hears each node in turn, and the nodes stand as they stood.
pub record CoordinatorHears (W : PlainWorkload) (m new : Machine) : Type 0 where
  pub heard : after_names (followed W m.journal).nodes (flat_map (told_of (followed W m.journal)) (followed W m.journal).nodes) (heard_in W m.journal) ≡ Some (heard_in W new.journal)
  pub nodes : (followed W new.journal).nodes ≡ (followed W m.journal).nodes

abbrev pub CoordinatorHearsSo : Type 0
CoordinatorHearsSo = (W : PlainWorkload) → IsValid W → (m : Machine) → IsReached W m → CoordinatorHears W m (coordinator_hears W m)
