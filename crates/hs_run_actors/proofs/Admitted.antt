-- An agent has admitted no more triggers than it took, and what it told may be heard.
use Rattle.std.proofs.Common.{◌≡◌, ℕ, ◌+◌, ◌≤◌, cond, List, [], ◌∷◌, arith}
use Rattle.hs_run_actors.proofs.Prelude.{sum_by-append, EventsAddFew, AgentState, start, Chunk, Crumbed, Triggered, Asked, Turn, AgentEvent, Took, Gave, admits, after_event, after_from, after, PlainSettings, is_triggered, triggered}
use Rattle.hs_base.proofs.Counts.{one_few}

adds_one : EventsAddFew → (settings : PlainSettings) (node : ℕ) (state : AgentState) (event : AgentEvent) → (after_event settings node state event).admitted ≤ state.admitted + triggered (event ∷ [])
adds_one few settings node state (Took (Chunk client sheet)) = let e = (few settings node state).admitted (Chunk client sheet) in omega (arith, e)
adds_one few settings node state (Took (Crumbed client crumb)) = let e = (few settings node state).admitted (Crumbed client crumb) in omega (arith, e)
adds_one few settings node state (Took (Triggered client trigger)) =
    let e = (few settings node state).admitted (Triggered client trigger) in
    let one = one_few (admits settings state.tried trigger) in
    omega (arith, e, one)
adds_one few settings node state (Took (Asked ask)) = let e = (few settings node state).admitted (Asked ask) in omega (arith, e)
adds_one few settings node state (Took Turn) = let e = (few settings node state).admitted Turn in omega (arith, e)
adds_one few settings node state (Gave answer) = let e = (few settings node state).counted answer in omega (arith, e)

counted_from : EventsAddFew → (settings : PlainSettings) (node : ℕ) (state : AgentState) (events : List AgentEvent) → (after_from settings node state events).admitted ≤ state.admitted + triggered events
counted_from few settings node state [] = omega arith
counted_from few settings node state (event ∷ events) =
    let one = adds_one few settings node state event in
    let rest = counted_from few settings node (after_event settings node state event) events in
    let both : triggered (event ∷ events) ≡ triggered (event ∷ []) + triggered events = sum_by-append (λ (e : AgentEvent). cond (is_triggered e) 1 0) (event ∷ []) events in
    omega (arith, one, rest, both)

pub admitted_few : EventsAddFew → (settings : PlainSettings) (node : ℕ) (events : List AgentEvent) → (after settings node events).admitted ≤ triggered events
admitted_few few settings node events = let all = counted_from few settings node (start settings) events in omega (arith, all)
