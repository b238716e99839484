-- The index of an agent: which trace was touched last, and what has to go when it is over a limit. Whole traces go, the
-- longest untouched first, until the index is within both limits. Each of their chunks notes how much was indexed when its
-- trace's time came, and nothing is left of their crumbs.
use Rattle.std.specs.Prelude.{Bool, ◌||◌, nat_lt, List, [], ◌∷◌, ◌++◌, length, if◌then◌else◌}
use Rattle.hs_base.specs.declared.ids.TraceId.{TraceId}
use Rattle.hs_records.specs.Plain.{PlainSettings}
use Rattle.hs_law_agent.specs.Standings.{Evicted, indexed_places, indexed_count, moved}
use Rattle.hs_law_agent.specs.State.{AgentState, without_trace, without_crumbs}

-- a touched trace is the one touched last
abbrev pub touch : TraceId → List TraceId → List TraceId
touch trace touched = without_trace trace touched ++ trace ∷ []

-- whether more is indexed than may stay
abbrev pub is_over : PlainSettings → AgentState → Bool
is_over settings state = nat_lt settings.threshold (indexed_count state.taken) || nat_lt settings.traces (length state.touched)

-- a trace goes, and the traces behind it stay
abbrev pub evict_trace : TraceId → List TraceId → AgentState → AgentState
evict_trace trace later state =
    let places = indexed_places state.taken trace in
    record state {
      taken = moved places (λ _. Evicted (indexed_count state.taken) (length state.touched)) state.taken;
      touched = later;
      crumbs = without_crumbs trace state.crumbs;
      hand = state.hand ++ places;
    }

-- traces go from the front of these, as long as there are too many chunks or traces
abbrev pub evict_from : PlainSettings → List TraceId → AgentState → AgentState
evict_from settings [] state = state
evict_from settings (trace ∷ later) state = if is_over settings state then evict_from settings later (evict_trace trace later state) else state

abbrev pub evict : PlainSettings → AgentState → AgentState
evict settings state = evict_from settings state.touched state
