-- The laws of the agent's model at the nodes of a journal.
use Rattle.std.proofs.Common.{sym, subst}
use Rattle.hs_law_outcome.proofs.Prelude.{all_each, LimitsHold, AgentState, NodeRun, followed, ComesByEvents, AgentsComeByEvents, KeepsItsModel, AgentsKeepTheirModel}
use Rattle.hs_law_agent.specs.Laws.{AllWereOver, EvictedWereOver, ListsHaveTheirChunks, TracesAreClaimedOnce, ChunksStandByTheirClaim}
use Rattle.hs_law_outcome.specs.Causes.{EvictedOnlyWhereOver}

pub evicted_only_where_over : EvictedWereOver → AgentsComeByEvents → EvictedOnlyWhereOver
evicted_only_where_over over comes W J =
    all_each (ComesByEvents W.settings) (λ (run : NodeRun). AllWereOver W.settings run.state.taken) (followed W J).nodes
    (λ run c. subst (λ (state : AgentState). AllWereOver W.settings state.taken) (sym c) (over W.settings run.node run.events)) (comes W J)

pub agents_keep_their_model : ListsHaveTheirChunks → LimitsHold → TracesAreClaimedOnce → ChunksStandByTheirClaim → AgentsComeByEvents → AgentsKeepTheirModel
agents_keep_their_model lists limits once stand comes W J =
    all_each (ComesByEvents W.settings) (KeepsItsModel W.settings) (followed W J).nodes
    (λ run c. subst (λ (state : AgentState). KeepsItsModel W.settings (record run { state = state })) (sym c)
    (record {
      lists = lists W.settings run.node run.events;
      limits = limits W.settings run.node run.events;
      claimed = once W.settings run.node run.events;
      claims = stand W.settings run.node run.events;
    }))
    (comes W J)
