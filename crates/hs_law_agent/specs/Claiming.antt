-- Which traces a group takes at a node: its lead, and then its laterals one by one, leaving out what is claimed there already.
-- What the index has of a trace that is taken is pinned for the group from then on, oldest first, and the index drops the trace,
-- while its crumbs stay known.
use Rattle.std.specs.Prelude.{List, [], ◌∷◌, ◌++◌, fold, if◌then◌else◌}
use Rattle.hs_base.specs.declared.ids.TraceId.{TraceId}
use Rattle.hs_base.specs.declared.told.Ask.{Ask}
use Rattle.hs_law_agent.specs.Standings.{Pinned, indexed_places, moved}
use Rattle.hs_law_agent.specs.State.{AgentState, is_claimed, without_trace}

-- the trace is claimed for the group with its laterals
abbrev pub claim_trace : Ask → TraceId → AgentState → AgentState
claim_trace ask trace state =
    let places = indexed_places state.taken trace in
    record state {
      taken = moved places (λ _. Pinned ask.group) state.taken;
      touched = without_trace trace state.touched;
      claims = state.claims ++ record { trace = trace; group = ask.group; laterals = ask.laterals } ∷ [];
      pinned = state.pinned ++ places;
    }

-- a claim holds for good
abbrev pub claim_unclaimed : Ask → AgentState → TraceId → AgentState
claim_unclaimed ask state trace = if is_claimed state.claims trace then state else claim_trace ask trace state

-- the lead and the laterals of a group
abbrev pub traces_of : Ask → List TraceId
traces_of ask = ask.group.lead ∷ ask.laterals

abbrev pub claim_each : Ask → AgentState → AgentState
claim_each ask state = fold (claim_unclaimed ask) state (traces_of ask)
