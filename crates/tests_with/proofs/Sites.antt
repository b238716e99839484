-- What is known of an agent that forgot no group.
use Rattle.std.proofs.Common.{◌≡◌, ◌≤◌, length, sym, subst}
use Rattle.hs_law_agent.specs.State.{AgentState, start}
use Rattle.hs_law_agent.specs.Stepping.{after_from}
use Rattle.hs_agent.specs.Calls.{FewAreAdmitted}
use Rattle.hs_agent.specs.Runs.{AgentRun, state_of}

-- it admitted no more triggers than there were events
pub few_here : {L : Type 0} (run : AgentRun L) → FewAreAdmitted → run.start ≡ start run.settings → (state_of run).admitted ≤ length run.events
few_here run few begins = subst (λ (state : AgentState). (after_from run.settings run.node state run.events).admitted ≤ length run.events) (sym begins) (few run.settings run.node run.events)
