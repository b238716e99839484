-- Which of the reports of an agent's model were offered to the pool, and so said: the first ones, in order.
use Rattle.std.specs.Prelude.{◌≡◌, ℕ, List, [], ◌∷◌, ◌++◌, take, drop, map, filter, slice_get, Option, Some, None, option_and_then, if◌then◌else◌, refl}
use Rattle.hs_base.specs.Samples.{one_rule}
use Rattle.hs_wire.specs.Messages.{PlainReported}
use Rattle.hs_words.specs.Buffers.{Buffer}
use Rattle.hs_ring.specs.Parts.{Leased}
use Rattle.hs_law_agent.specs.Standings.{Taken, is_reported, stands}
use Rattle.hs_law_agent.specs.State.{AgentState}
use Rattle.hs_law_agent.specs.Laws.{given_places}
use Rattle.hs_law_agent.specs.Stepping.{AgentEvent, Answered, Given, Missed, Unread, after}
use Rattle.hs_law_agent.specs.Samples.{settings_with, chunk, trigger, turned, missed, given}
use Rattle.hs_agent.specs.Leaving.{came_back}
use Rattle.hs_agent.specs.Runs.{AgentRun, offered_next, state_of}
use Rattle.hs_intake.specs.Handing.{page_if}
use Rattle.hs_intake.specs.Intakes.{IntakeAct, TakesChunk, TakesCrumb, TakesTrigger, TakesAsk, Turns, LetsGo, Forgets, after_act}

-- ---- what was offered

-- the place of the first of the hand, if it was offered and came back
abbrev pub back_of : AgentState → List ℕ
back_of state = if came_back state.log then take 1 state.hand else []

-- the places of the chunks that were offered, in order
abbrev pub offered_of : AgentState → List ℕ
offered_of state = given_places state ++ back_of state

-- those in the hand that were not
abbrev pub waiting_of : AgentState → List ℕ
waiting_of state = if came_back state.log then drop 1 state.hand else state.hand

-- of these places those whose chunks are reported
abbrev pub reported_among : AgentState → List ℕ → List ℕ
reported_among state places = filter (stands is_reported state.taken) places

-- the page of the chunk at a place, if it was reported
abbrev pub report_in : List Taken → List (Buffer Leased) → ℕ → Option PlainReported
report_in taken buffers place =
    option_and_then (λ (chunk : Taken). option_and_then (λ (buffer : Buffer Leased). page_if chunk.standing buffer.lease.mark chunk.sheet) (slice_get buffers place)) (slice_get taken place)

abbrev pub report_at : AgentRun Leased → ℕ → Option PlainReported
report_at run place = report_in (state_of run).taken run.buffers place

-- The model's reports are those that were offered and then those that wait in the hand. Each of the first ones has its page, and these are the pages.
pub record AreFirst (run : AgentRun Leased) (pages : List PlainReported) : Type 0 where
  pub reports : (state_of run).reported ≡ reported_among (state_of run) (offered_of (state_of run)) ++ reported_among (state_of run) (waiting_of (state_of run))
  pub pages_are : map Some pages ≡ map (report_at run) (reported_among (state_of run) (offered_of (state_of run)))

-- ---- what comes back

-- The pool took the buffer; or it came back with its lease.
abbrev pub ComesBack : Buffer Leased → Answered → Option (Buffer Leased) → Type 0
ComesBack buffer (Given stamp) back = back ≡ None
ComesBack buffer (Missed stamp) back = (later : Buffer Leased) × (back ≡ Some later) × (later.lease ≡ buffer.lease)
ComesBack buffer Unread back = (later : Buffer Leased) × (back ≡ Some later) × (later.lease ≡ buffer.lease)

abbrev pub IsBackAt : AgentRun Leased → IntakeAct → Type 0
IsBackAt run (TakesChunk client buffer) = Unit {0}
IsBackAt run (TakesCrumb client crumb) = Unit {0}
IsBackAt run (TakesTrigger client trigger) = Unit {0}
IsBackAt run (TakesAsk ask) = Unit {0}
IsBackAt run Turns = Unit {0}
IsBackAt run (LetsGo answer back) = (buffer : Buffer Leased) × (offered_next run ≡ Some buffer) × ComesBack buffer answer back
IsBackAt run (Forgets group) = Unit {0}

-- At each of these acts that offers a chunk, there is one in the hand, which is given or comes back so.
abbrev pub AreBack : AgentRun Leased → List IntakeAct → Type 0
AreBack run [] = Unit {0}
AreBack run (act ∷ acts) = IsBackAt run act × AreBack (after_act run act) acts

-- ---- examples

-- Two chunks of a claimed trace are reported by two turns. The pool misses the first, and takes it at the next offer.
abbrev offers : List AgentEvent → AgentState
offers events = after (settings_with 4 8 4 one_rule) 0 ((trigger 1 1 1 [] ∷ chunk 1 0 ∷ chunk 1 1 ∷ turned ∷ turned ∷ []) ++ events)

first_is_offered : ((offers []).reported ≡ 0 ∷ 1 ∷ []) × (offered_of (offers []) ≡ []) × (offered_of (offers (missed 3 ∷ [])) ≡ 0 ∷ []) × (waiting_of (offers (missed 3 ∷ [])) ≡ 1 ∷ [])
    × (offered_of (offers (missed 3 ∷ given 4 ∷ [])) ≡ 0 ∷ []) × (reported_among (offers (missed 3 ∷ given 4 ∷ [])) (waiting_of (offers (missed 3 ∷ given 4 ∷ []))) ≡ 1 ∷ [])
first_is_offered = (refl, refl, refl, refl, refl, refl)
