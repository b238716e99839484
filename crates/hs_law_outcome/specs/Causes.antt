-- Why a record's fate is what it is, as far as the agents and the pools of a journal show it. An agent keeps what its model keeps:
-- its lists have their chunks, its limits hold, and all chunks of a claimed trace stand for the group that claimed it. A chunk is
-- evicted only where more was indexed than may stay. A buffer is got only by one writer at a time, and a draw is empty only where
-- the queue is.
use Rattle.std.specs.Prelude.{◌≡◌, ℕ, ◌≤◌, List, [], ◌∷◌, ◌++◌, reverse, count_by, true}
use Rattle.std.specs.List.{AllByRecursion}
use Rattle.hs_base.specs.declared.ids.TraceId.{TraceId}
use Rattle.hs_records.specs.Journals.{PlainJournal}
use Rattle.hs_law_agent.specs.Laws.{count_of, given_places, PlacesMatch, IsWithin, IsClaimedOrTouched, AllStandByClaim, AllWereOver}
use Rattle.hs_law_agent.specs.Standings.{is_evicted, is_let_go, stands, is_of_trace}
use Rattle.hs_law_agent.specs.State.{AgentState, GivenPlace, is_claimed}
use Rattle.hs_records.specs.Plain.{PlainSettings, PlainWorkload}
use Rattle.hs_words.specs.PoolHistory.{PoolEvent, Got, Empty, is_got, is_given, queue_after, IsPoolHistory}
use Rattle.hs_law_journal.specs.Following.{NodeRun, followed}
use Rattle.hs_law_journal.specs.Played.{state_behind}

-- ---- agents

-- What an agent keeps, wherever a journal leads it.
pub record KeepsItsModel (settings : PlainSettings) (run : NodeRun) : Type 0 where
  -- what is pinned, reported or let go stands in its list, each chunk once: so what was given back was let go before
  pub lists : PlacesMatch run.state
  -- no more is indexed, and no more is pinned, than may be
  pub limits : IsWithin settings run.state
  -- a trace is claimed once, or indexed once, or neither
  pub claimed : (trace : TraceId) → IsClaimedOrTouched run.state trace
  -- all chunks of a trace that a group took over stand for that group
  pub claims : AllStandByClaim run.state.claims run.state.taken

abbrev pub AgentsKeepTheirModel : Type 0
AgentsKeepTheirModel = (W : PlainWorkload) (J : PlainJournal) → AllByRecursion (KeepsItsModel W.settings) (followed W J).nodes

-- No agent evicts at or below both limits, and the counts that a fate names show it.
abbrev pub EvictedOnlyWhereOver : Type 0
EvictedOnlyWhereOver = (W : PlainWorkload) (J : PlainJournal) → AllByRecursion (λ (run : NodeRun). AllWereOver W.settings run.state.taken) (followed W J).nodes

-- Each buffer that was given back is that of a chunk that was evicted, abandoned or reported, and no chunk's is given back twice. So
-- none is given while it is indexed or pinned.
pub record GaveWhatWasLetGo (state : AgentState) : Type 0 where
  pub let_go : AllByRecursion (λ (given : GivenPlace). stands is_let_go state.taken given.place ≡ true) state.given
  pub once : (place : ℕ) → count_of (given_places state) place ≤ 1

abbrev pub GivenWereLetGo : Type 0
GivenWereLetGo = (W : PlainWorkload) (J : PlainJournal) → AllByRecursion (λ (run : NodeRun). GaveWhatWasLetGo run.state) (followed W J).nodes

-- What was claimed behind some events is not evicted by any that came later.
abbrev pub KeepsItsClaims : PlainSettings → NodeRun → Type 0
KeepsItsClaims settings run =
    (n : ℕ) (trace : TraceId) (place : ℕ) → is_of_trace (state_behind settings run n).taken trace place ≡ true → is_claimed (state_behind settings run n).claims trace ≡ true
    → stands is_evicted run.state.taken place ≡ stands is_evicted (state_behind settings run n).taken place

abbrev pub NothingClaimedWasEvicted : Type 0
NothingClaimedWasEvicted = (W : PlainWorkload) (J : PlainJournal) → AllByRecursion (KeepsItsClaims W.settings) (followed W J).nodes

-- ---- pools

-- A buffer that is got was given back as often as it was got before: no second writer has it.
abbrev pub NoBufferIsOutTwice : Type 0
NoBufferIsOutTwice =
    (n buffer : ℕ) (earlier later : List PoolEvent) → IsPoolHistory n (earlier ++ Got buffer ∷ later) → count_by (is_got buffer) earlier ≡ count_by (is_given buffer) earlier

-- A draw finds nothing only where no buffer waits.
abbrev pub EmptyOnlyWhereEmpty : Type 0
EmptyOnlyWhereEmpty = (n : ℕ) (earlier later : List PoolEvent) → IsPoolHistory n (earlier ++ Empty ∷ later) → queue_after n (reverse earlier) ≡ []
