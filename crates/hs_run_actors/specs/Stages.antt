-- The stages of a pass: the agent takes from the lines of one client, of the first clients, of all, and from the asks; it makes its
-- turn; and it makes its offers.
use Rattle.std.specs.Prelude.{◌≡◌, ◌⊎◌, ℕ, suc, ◌+◌, ◌^◌, ◌<◌, ◌≤◌, min, Bool, true, false, List, [], ◌∷◌, ◌++◌, length, map}
use Rattle.std.specs.List.{AllByRecursion}
use Rattle.hs_base.specs.declared.limits.TheConstants.{MAX_TAKEN}
use Rattle.hs_base.specs.declared.told.Ask.{Ask}
use Rattle.hs_base.specs.declared.told.Crumb.{Crumb}
use Rattle.hs_base.specs.declared.told.Told.{Told}
use Rattle.hs_base.specs.declared.told.Trigger.{Trigger}
use Rattle.hs_law_journal.specs.Doings.{asks_in}
use Rattle.hs_law_journal.specs.LoopPasses.{IsStamped}
use Rattle.hs_law_journal.specs.Turns.{AreTurns}
use Rattle.hs_agent.specs.Keeping.{PlainAgent}
use Rattle.hs_law_journal.specs.Shape.{log_stamps}
use Rattle.hs_law_agent.specs.Stepping.{Answered, Unread, AgentEvent, step_of_answer}
use Rattle.hs_records.specs.Plain.{PlainWorkload}
use Rattle.hs_ring.specs.Parts.{Leased}
use Rattle.hs_words.specs.Buffers.{Buffer}
use Rattle.hs_words.specs.Ends.{answers_in}
use Rattle.hs_words.specs.declared.token.TheConstants.{MAX_PUBLISHED}
use Rattle.hs_run_actors.specs.Agents.{AgentWorks, IsAskable, state_at}
use Rattle.hs_run_actors.specs.Intakes.{Intakes, AreIntakes, HandsOutAt, HandOutFirst}
use Rattle.hs_run_actors.specs.Turns.{GiverGoesOn, lent_of}
use Rattle.hs_run_actors.specs.Work.{NodeWork, with_events, chunk_event, crumb_event, trigger_event, ask_event, gave_event, triggered}

-- an agent with the asks that wait for it and the messages that wait to be fetched
pub record PlainWorkingAgent : Type 0 where
  pub agent : PlainAgent Leased
  pub asks : List Ask
  pub said : List Told

-- The agent is between two steps of this work, with these intakes.
pub record WorkingAgentStands (W : PlainWorkload) (work : NodeWork) (desk : PlainWorkingAgent) (lines : Intakes) : Type 0 where
  pub works : AgentWorks W work desk.agent desk.said
  pub asks_are : asks_in work.events ++ desk.asks ≡ work.asked
  pub askable : AllByRecursion (IsAskable W) work.asked
  pub lines_are : AreIntakes W work.node work.pool lines
  pub turns : AreTurns W.settings work.node (map lent_of work.came) work.events lines.giver.turns

-- ---- taking

-- There is such a client, and the agent may take as many triggers as a pass takes.
pub record AgentCanTake (W : PlainWorkload) (work : NodeWork) (client : ℕ) (desk : PlainWorkingAgent) (lines : Intakes) : Type 0 where
  pub low : client < W.settings.clients
  pub few : triggered work.events + MAX_TAKEN < 2 ^ 32
  pub stands : WorkingAgentStands W work desk lines

pub record TakesChunks (W : PlainWorkload) (work : NodeWork) (client : ℕ) (old new : Intakes) (desk : PlainWorkingAgent) : Type 0 where
  pub items : List (Buffer Leased)
  pub out : HandsOutAt client items old.chunks new.chunks
  pub only : new ≡ record old { chunks = new.chunks }
  pub stands : WorkingAgentStands W (with_events (map (chunk_event client) items) items work) desk new

pub record TakesCrumbs (W : PlainWorkload) (work : NodeWork) (client : ℕ) (old new : Intakes) (desk : PlainWorkingAgent) : Type 0 where
  pub items : List Crumb
  pub out : HandsOutAt client items old.crumbs new.crumbs
  pub only : new ≡ record old { crumbs = new.crumbs }
  pub stands : WorkingAgentStands W (with_events (map (crumb_event client) items) [] work) desk new

pub record TakesTriggers (W : PlainWorkload) (work : NodeWork) (client : ℕ) (old new : Intakes) (desk : PlainWorkingAgent) : Type 0 where
  pub items : List Trigger
  pub out : HandsOutAt client items old.triggers new.triggers
  pub only : new ≡ record old { triggers = new.triggers }
  pub stands : WorkingAgentStands W (with_events (map (trigger_event client) items) [] work) desk new

-- The agent took the first of the asks that waited, all or as many as it takes in a pass.
pub record TakesAsks (W : PlainWorkload) (work : NodeWork) (old : PlainWorkingAgent) (lines : Intakes) (desk : PlainWorkingAgent) : Type 0 where
  pub items : List Ask
  pub few : length items ≤ MAX_TAKEN
  pub all : min (length old.asks) MAX_TAKEN ≤ length items
  pub stands : WorkingAgentStands W (with_events (map ask_event items) [] work) desk lines

-- what was taken from the lines of a client
pub record Helping : Type 0 where
  pub chunks : List (Buffer Leased)
  pub crumbs : List Crumb
  pub triggers : List Trigger

abbrev pub events_of : ℕ → Helping → List AgentEvent
events_of client h = map (chunk_event client) h.chunks ++ map (crumb_event client) h.crumbs ++ map (trigger_event client) h.triggers

-- from the lines of the clients from this number on
abbrev pub events_from : ℕ → List Helping → List AgentEvent
events_from client [] = []
events_from client (h ∷ helpings) = events_of client h ++ events_from (suc client) helpings

abbrev pub chunks_of : List Helping → List (Buffer Leased)
chunks_of [] = []
chunks_of (h ∷ helpings) = h.chunks ++ chunks_of helpings

pub record TakesHelping (W : PlainWorkload) (work : NodeWork) (client : ℕ) (old new : Intakes) (desk : PlainWorkingAgent) : Type 0 where
  pub helping : Helping
  pub chunks : HandsOutAt client helping.chunks old.chunks new.chunks
  pub crumbs : HandsOutAt client helping.crumbs old.crumbs new.crumbs
  pub triggers : HandsOutAt client helping.triggers old.triggers new.triggers
  pub giver : new.giver ≡ old.giver
  pub stands : WorkingAgentStands W (with_events (events_of client helping) helping.chunks work) desk new

-- The agent took from the lines of the first so many clients.
pub record TakesFirst (W : PlainWorkload) (work : NodeWork) (count : ℕ) (old new : Intakes) (desk : PlainWorkingAgent) : Type 0 where
  pub helpings : List Helping
  pub number : length helpings ≡ count
  pub chunks : HandOutFirst (map (λ (h : Helping). h.chunks) helpings) old.chunks new.chunks
  pub crumbs : HandOutFirst (map (λ (h : Helping). h.crumbs) helpings) old.crumbs new.crumbs
  pub triggers : HandOutFirst (map (λ (h : Helping). h.triggers) helpings) old.triggers new.triggers
  pub giver : new.giver ≡ old.giver
  pub stands : WorkingAgentStands W (with_events (events_from 0 helpings) (chunks_of helpings) work) desk new

-- ---- offering

-- the stamps of answers
abbrev pub stamps_of : List Answered → List ℕ
stamps_of answers = log_stamps (map step_of_answer answers)

-- The agent offered, and each offer was answered so.
pub record AgentOffers (W : PlainWorkload) (work : NodeWork) (answers : List Answered) (old new : Intakes) (desk : PlainWorkingAgent) : Type 0 where
  pub gives : GiverGoesOn old.giver new.giver (stamps_of answers)
  pub only : new ≡ record old { giver = new.giver }
  pub stands : WorkingAgentStands W (with_events (map gave_event answers) [] work) desk new

-- The next of the hand was offered and read by the pool, or it was not read, or the hand is empty.
abbrev pub OffersNext : PlainWorkload → NodeWork → Intakes → Intakes → PlainWorkingAgent → Bool → Type 0
OffersNext W work old new desk true =
    (answer : Answered) × IsStamped answer × AgentOffers W work (answer ∷ []) old new desk
    × (length (answers_in new.giver.turns) ≡ suc (length (answers_in old.giver.turns))) × (length (answers_in new.giver.turns) ≤ MAX_PUBLISHED)
OffersNext W work old new desk false = AgentOffers W work (Unread ∷ []) old new desk ⊎ (AgentOffers W work [] old new desk × ((state_at W work).hand ≡ []))

-- The agent made its offers: until its hand was empty, or until one was unread.
pub record OffersAll (W : PlainWorkload) (work : NodeWork) (old new : Intakes) (desk : PlainWorkingAgent) : Type 0 where
  pub answers : List Answered
  pub offers : AgentOffers W work answers old new desk
  pub before : List Answered
  pub stamped : AllByRecursion IsStamped before
  pub ends : ((answers ≡ before) × ((state_at W (with_events (map gave_event answers) [] work)).hand ≡ [])) ⊎ (answers ≡ before ++ Unread ∷ [])
