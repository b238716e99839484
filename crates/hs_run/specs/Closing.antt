-- What is done behind the rounds, when the links are closed: passes alone, until nothing is left. Each of them is of all agents and of the
-- coordinator, and behind each all messages and asks are moved.
use Rattle.std.specs.Prelude.{◌≡◌, ℕ, suc, ◌+◌, ◌<◌, ◌≤◌, min, List, ◌++◌, length, map, slice_get, Some}
use Rattle.std.specs.List.{AllByRecursion}
use Rattle.hs_base.specs.declared.limits.TheConstants.{MAX_TAKEN}
use Rattle.hs_coord.specs.Messages.{Message, Messages}
use Rattle.hs_link.specs.Contents.{sent}
use Rattle.hs_law_agent.specs.Stepping.{after}
use Rattle.hs_records.specs.Plain.{PlainWorkload}
use Rattle.hs_client.specs.Sending.{operations_at, place_of}
use Rattle.hs_words.specs.Ends.{Deed, Answer, IsTogether}
use Rattle.hs_law_journal.specs.Doings.{asks_in, crumbs_in, triggers_in}
use Rattle.hs_run_actors.specs.ClientActors.{PlainClientActor}
use Rattle.hs_run_actors.specs.Coordinators.{heard_of}
use Rattle.hs_run_actors.specs.Work.{NodeWork, came_of}
use Rattle.hs_run.specs.RunStates.{PlainNodeActors, RunState}
use Rattle.hs_run.specs.Spans.{NodeBetweenPasses, IsNodeBetweenPasses, IsStep}

-- a node as the rounds left it
abbrev pub left_at : RunState → ℕ → PlainNodeActors → NodeBetweenPasses
left_at m node site = record { work = m.works node; giver = site.agent.port.giver }

-- In a pass the agent takes all that a client sent, or as many items of each link as a pass takes.
pub record TakesAllOfClient (client : ℕ) (caller : PlainClientActor) (old new : NodeWork) : Type 0 where
  pub chunks : min (length (sent caller.client.chunks)) (length (came_of client old) + MAX_TAKEN) ≤ length (came_of client new)
  pub crumbs : min (length (sent caller.client.crumbs)) (length (crumbs_in client old.events) + MAX_TAKEN) ≤ length (crumbs_in client new.events)
  pub triggers : min (length (sent caller.client.triggers)) (length (triggers_in client old.events) + MAX_TAKEN) ≤ length (triggers_in client new.events)

-- A node's pass behind the rounds.
pub record IsPassAlone (W : PlainWorkload) (node : ℕ) (site : PlainNodeActors) (heard heard' : Messages) (old new : NodeBetweenPasses) : Type 0 where
  pub step : IsStep W node heard heard' old new
  pub stands : IsNodeBetweenPasses W node heard' new
  pub takes : (client : ℕ) (caller : PlainClientActor) → slice_get site.callers client ≡ Some caller → TakesAllOfClient client caller old.work new.work

-- Behind the rounds that led to a moment passes were made, up to so many in all. They led the nodes here, and these messages were heard.
pub record Closing (W : PlainWorkload) (rounds : ℕ) (m : RunState) (passes : ℕ) (nodes : ℕ → NodeBetweenPasses) (heard : Messages) : Type 0 where
  pub enough : rounds ≤ passes
  -- of each node, behind so many passes
  pub posts : ℕ → ℕ → NodeBetweenPasses
  pub heards : ℕ → Messages
  pub starts : (node : ℕ) (site : PlainNodeActors) → slice_get m.standing.nodes node ≡ Some site → posts node rounds ≡ left_at m node site
  pub starts_heard : heards rounds ≡ m.heard
  pub each : (k node : ℕ) (site : PlainNodeActors) → rounds ≤ k → k < passes → slice_get m.standing.nodes node ≡ Some site → IsPassAlone W node site (heards k) (heards (suc k)) (posts node k) (posts node (suc k))
  pub grows : (k : ℕ) → rounds ≤ k → k < passes → (more : Messages) × (heards (suc k) ≡ heards k ++ more)
  pub ends : (node : ℕ) → posts node passes ≡ nodes node
  pub ends_heard : heards passes ≡ heard

-- Nothing is left at a node, all asks were taken and all messages heard.
pub record IsNodeBare (W : PlainWorkload) (node : ℕ) (site : PlainNodeActors) (heard : Messages) (post : NodeBetweenPasses) : Type 0 where
  pub chunks : (client : ℕ) (caller : PlainClientActor) → slice_get site.callers client ≡ Some caller → came_of client post.work ≡ sent caller.client.chunks
  pub crumbs : (client : ℕ) (caller : PlainClientActor) → slice_get site.callers client ≡ Some caller → crumbs_in client post.work.events ≡ sent caller.client.crumbs
  pub triggers : (client : ℕ) (caller : PlainClientActor) → slice_get site.callers client ≡ Some caller → triggers_in client post.work.events ≡ sent caller.client.triggers
  pub asks : asks_in post.work.events ≡ post.work.asked
  pub said : heard_of node heard ≡ post.work.moved
  pub pinned : length (after W.settings node post.work.events).pinned ≡ 0

-- the answers of a node's drawers, by the number of the client
abbrev pub drawn_at : PlainNodeActors → List (List Answer)
drawn_at site = map (λ (caller : PlainClientActor). caller.client.drawer.answers) site.callers

-- The pool of a node is closed.
abbrev pub IsClosedPool : PlainWorkload → PlainNodeActors → NodeBetweenPasses → Type 0
IsClosedPool W site post = (log : List Deed) × IsTogether W.settings.buffers post.giver.turns (drawn_at site) log

-- All of a run is over: its clients have done their operations, nothing is left anywhere, and the pools are closed.
pub record IsOver (W : PlainWorkload) (m : RunState) (nodes : ℕ → NodeBetweenPasses) (heard : Messages) : Type 0 where
  pub done : (node client : ℕ) (site : PlainNodeActors) (caller : PlainClientActor) → slice_get m.standing.nodes node ≡ Some site → slice_get site.callers client ≡ Some caller
      → caller.done ≡ length (operations_at W (place_of W.settings.clients node client))
  pub bare : (node : ℕ) (site : PlainNodeActors) → slice_get m.standing.nodes node ≡ Some site → IsNodeBare W node site heard (nodes node)
  pub pools : (node : ℕ) (site : PlainNodeActors) → slice_get m.standing.nodes node ≡ Some site → IsClosedPool W site (nodes node)
  pub from : AllByRecursion (λ (m : Message). m.node.0 < W.settings.nodes) heard
