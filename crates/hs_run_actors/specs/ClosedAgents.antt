-- An agent whose links are closed, as contracts see it: of each link what is left, and the giver of the pool. Nobody sends any more, and
-- so what came and what is left are all that was sent.
use Rattle.std.specs.Prelude.{◌≡◌, ℕ, ◌+◌, ◌<◌, ◌≤◌, min, List, [], ◌++◌, length, map, slice_get, Some}
use Rattle.std.specs.List.{AllByRecursion}
use Rattle.std.specs.Option.{option_map_or}
use Rattle.hs_base.specs.declared.limits.TheConstants.{MAX_TAKEN}
use Rattle.hs_base.specs.declared.told.Ask.{Ask}
use Rattle.hs_base.specs.declared.told.Crumb.{Crumb}
use Rattle.hs_base.specs.declared.told.Told.{Told}
use Rattle.hs_base.specs.declared.told.Trigger.{Trigger}
use Rattle.hs_law_journal.specs.Doings.{crumbs_in, triggers_in, steps_of}
use Rattle.hs_law_journal.specs.LoopPasses.{EndsPass}
use Rattle.hs_agent.specs.Keeping.{PlainAgent}
use Rattle.hs_law_journal.specs.Shape.{log_stamps}
use Rattle.hs_link.specs.Contents.{Incoming, Outgoing, Remaining, sent}
use Rattle.hs_live.specs.Keys.{Key}
use Rattle.hs_live.specs.Live.{IsMate}
use Rattle.hs_law_agent.specs.Stepping.{AgentEvent}
use Rattle.hs_records.specs.Plain.{PlainWorkload}
use Rattle.hs_ring.specs.Parts.{Leased, Giving}
use Rattle.hs_words.specs.Buffers.{Buffer, buffer_of}
use Rattle.hs_words.specs.declared.token.Held.{Held}
use Rattle.hs_run_actors.specs.Agents.{state_at}
use Rattle.hs_run_actors.specs.Intakes.{Intakes, closed}
use Rattle.hs_run_actors.specs.AgentActors.{TakesItsAsks}
use Rattle.hs_run_actors.specs.Stages.{PlainWorkingAgent, WorkingAgentStands}
use Rattle.hs_run_actors.specs.Turns.{GiverGoesOn}
use Rattle.hs_run_actors.specs.Work.{NodeWork, came_of, with_events}

pub record PlainClosedAgent : Type 0 where
  pub agent : PlainAgent Leased
  pub giver : Giving
  -- by the number of the client
  pub chunks : List (Remaining (Buffer Leased) Key)
  pub crumbs : List (Remaining Crumb Key)
  pub triggers : List (Remaining Trigger Key)
  pub asks : List Ask
  pub said : List Told
  pub clients : ℕ

abbrev pub closed_working_agent : PlainClosedAgent → PlainWorkingAgent
closed_working_agent shut = record { agent = shut.agent; asks = shut.asks; said = shut.said }

abbrev pub closed_intakes : PlainClosedAgent → Intakes
closed_intakes shut =
    record {
      giver = shut.giver;
      chunks = map (λ r. closed r) shut.chunks;
      crumbs = map (λ r. closed r) shut.crumbs;
      triggers = map (λ r. closed r) shut.triggers;
    }

-- what is left of a link of chunks, which are seen as buffers
abbrev pub remaining : {g : _} → Remaining (Held Leased g) Key → Remaining (Buffer Leased) Key
remaining r = record { key = r.key; items = map buffer_of r.items }

-- ---- closing

-- all that each client sent, by its number
pub record AllSent : Type 0 where
  pub chunks : ℕ → List (Buffer Leased)
  pub crumbs : ℕ → List Crumb
  pub triggers : ℕ → List Trigger

abbrev pub sent_at : {T : Type 0} → List (Outgoing T Key) → ℕ → List T
sent_at senders client = option_map_or sent (slice_get senders client) []

abbrev pub all_sent : List (Outgoing (Buffer Leased) Key) → List (Outgoing Crumb Key) → List (Outgoing Trigger Key) → AllSent
all_sent chunks crumbs triggers = record { chunks = sent_at chunks; crumbs = sent_at crumbs; triggers = sent_at triggers }

-- these senders are the other ends of the receivers, client by client
pub record AreMatesOf {T : Type 0} (senders : List (Outgoing T Key)) (receivers : List (Incoming T Key)) : Type 0 where
  pub count : length senders ≡ length receivers
  pub each : (client : ℕ) (s : Outgoing T Key) → slice_get senders client ≡ Some s → IsMate client receivers s

-- ---- what stands

-- Of each link what came and what is left are what was sent.
pub record HasLeft (work : NodeWork) (all : AllSent) (shut : PlainClosedAgent) : Type 0 where
  pub chunks : (client : ℕ) (r : Remaining (Buffer Leased) Key) → slice_get shut.chunks client ≡ Some r → came_of client work ++ r.items ≡ all.chunks client
  pub crumbs : (client : ℕ) (r : Remaining Crumb Key) → slice_get shut.crumbs client ≡ Some r → crumbs_in client work.events ++ r.items ≡ all.crumbs client
  pub triggers : (client : ℕ) (r : Remaining Trigger Key) → slice_get shut.triggers client ≡ Some r → triggers_in client work.events ++ r.items ≡ all.triggers client

pub record IsClosedAgent (W : PlainWorkload) (work : NodeWork) (all : AllSent) (shut : PlainClosedAgent) : Type 0 where
  pub stands : WorkingAgentStands W work (closed_working_agent shut) (closed_intakes shut)
  pub left : HasLeft work all shut
  pub clients_are : shut.clients ≡ W.settings.clients

-- Nothing waits at the node, and nothing is pinned.
pub record IsClosedAgentBare (W : PlainWorkload) (work : NodeWork) (shut : PlainClosedAgent) : Type 0 where
  pub chunks : AllByRecursion (λ (r : Remaining (Buffer Leased) Key). r.items ≡ []) shut.chunks
  pub crumbs : AllByRecursion (λ (r : Remaining Crumb Key). r.items ≡ []) shut.crumbs
  pub triggers : AllByRecursion (λ (r : Remaining Trigger Key). r.items ≡ []) shut.triggers
  pub asks : shut.asks ≡ []
  pub said : shut.said ≡ []
  pub pinned : (state_at W work).pinned ≡ []

-- ---- a pass

-- the events of a pass, and the buffers in which its chunks came
abbrev pub Events : Type 0
Events = List AgentEvent

abbrev pub Buffers : Type 0
Buffers = List (Buffer Leased)

-- all that was sent came behind the pass, or as many more items as a pass takes
abbrev pub TakesLeft : {T : Type 0} → (all before behind : List T) → Type 0
TakesLeft all before behind = min (length all) (length before + MAX_TAKEN) ≤ length behind

pub record ClosedAgentPasses (W : PlainWorkload) (work : NodeWork) (all : AllSent) (pass : List AgentEvent) (came : List (Buffer Leased)) (old new : PlainClosedAgent) : Type 0 where
  pub stands : IsClosedAgent W (with_events pass came work) all new
  pub ends : EndsPass W (state_at W (with_events pass [] work)) pass
  pub gives : GiverGoesOn old.giver new.giver (log_stamps (steps_of pass))
  pub chunks : (client : ℕ) → client < W.settings.clients → TakesLeft (all.chunks client) (came_of client work) (came_of client (with_events pass came work))
  pub crumbs : (client : ℕ) → client < W.settings.clients → TakesLeft (all.crumbs client) (crumbs_in client work.events) (crumbs_in client (work.events ++ pass))
  pub triggers : (client : ℕ) → client < W.settings.clients → TakesLeft (all.triggers client) (triggers_in client work.events) (triggers_in client (work.events ++ pass))
  pub asks : TakesItsAsks work pass
