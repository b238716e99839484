-- A pass of an agent's loop: what it takes of each queue, and of whose; then a turn, and offers, each made where the hand has a buffer.
use Rattle.std.specs.Prelude.{◌≡◌, ◌⊎◌, ℕ, ◌<◌, ◌≤◌, List, [], ◌∷◌, ◌++◌, map, replicate, slice_get, IsSome}
use Rattle.std.specs.List.{AllByRecursion, flat_map}
use Rattle.hs_base.specs.declared.limits.TheConstants.{MAX_TAKEN}
use Rattle.hs_records.specs.declared.journal.Step.{Step}
use Rattle.hs_records.specs.declared.journal.Step.TheVariants as steps
use Rattle.hs_law_agent.specs.Laws.{noted_as}
use Rattle.hs_law_agent.specs.State.{AgentState}
use Rattle.hs_law_agent.specs.Stepping.{Chunk, Crumbed, Triggered, Asked, Turn, Answered, Given, Missed, Unread, AgentEvent, Took, Gave, step_of_answer, after_event}
use Rattle.hs_records.specs.Plain.{PlainSettings, PlainWorkload}
use Rattle.hs_law_journal.specs.Following.{Queue, Chunks, Crumbs, Triggers, Asks}
use Rattle.hs_law_journal.specs.Passes.{queues_of}

-- the step that takes from a queue
abbrev pub step_from : Queue → Step
step_from (Chunks client) = steps.Chunk client
step_from (Crumbs client) = steps.Crumb client
step_from (Triggers client) = steps.Trigger client
step_from Asks = steps.Ask

-- The loop of a pass: of each queue in order at most so many items, then a turn, then offers.
pub record IsPass (W : PlainWorkload) (pass : List AgentEvent) : Type 0 where
  pub counts : Queue → ℕ
  pub few : (queue : Queue) → counts queue ≤ MAX_TAKEN
  pub offers : List Answered
  pub steps_are : map noted_as pass ≡ flat_map (λ queue. replicate (counts queue) (step_from queue)) (queues_of W) ++ steps.Turn ∷ map step_of_answer offers

-- The clients that events name are those of the node.
abbrev pub IsOwn : PlainWorkload → AgentEvent → Type 0
IsOwn W (Took (Chunk client sheet)) = client < W.settings.clients
IsOwn W (Took (Crumbed client crumb)) = client < W.settings.clients
IsOwn W (Took (Triggered client trigger)) = client < W.settings.clients
IsOwn W (Took (Asked ask)) = Unit {0}
IsOwn W (Took Turn) = Unit {0}
IsOwn W (Gave answer) = Unit {0}

-- an offer is made where the hand has a buffer
abbrev pub HandsReady : PlainSettings → ℕ → AgentState → List AgentEvent → Type 0
HandsReady settings node state [] = Unit {0}
HandsReady settings node state (Took input ∷ events) = HandsReady settings node (after_event settings node state (Took input)) events
HandsReady settings node state (Gave answer ∷ events) = IsSome (slice_get state.hand 0) × HandsReady settings node (after_event settings node state (Gave answer)) events

abbrev pub IsStamped : Answered → Type 0
IsStamped (Given stamp) = Unit {0}
IsStamped (Missed stamp) = Unit {0}
IsStamped Unread = ⊥

-- The pass is one of the loop, and it offers until the hand of the agent behind it is empty, or until an offer is unread.
pub record EndsPass (W : PlainWorkload) (behind : AgentState) (pass : List AgentEvent) : Type 0 where
  pub is_pass : IsPass W pass
  pub before : List Answered
  pub stamped : AllByRecursion IsStamped before
  pub ends : ((is_pass.offers ≡ before) × (behind.hand ≡ [])) ⊎ (is_pass.offers ≡ before ++ Unread ∷ [])
