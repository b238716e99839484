use Rattle.std.proofs.Common.{sym, subst}
use Rattle.hs_check_follow.proofs.Prelude.{Step, workload_of}
use Rattle.std.proofs.lemmas.Result.{IfOk-weaker}
use Rattle.hs_check_follow.specs.Nodes.{MayPerform, Performs}
use Rattle.hs_check_follow.proofs.agent.FollowedAgent.perform.Goals as goal

pub take_chunk-requires : goal.take_chunk-requires
take_chunk-requires c = (c.args.asks.now, subst (λ (step : Step). MayPerform (workload_of c.args.workload.now) step c.args.asks.now c.args.self.now) c.in-Chunk.is c.requires)

pub returns-in-Chunk : goal.returns-in-Chunk
returns-in-Chunk c =
    IfOk-weaker c.take_chunk.result _ _
    (λ done does. subst (λ (step : Step). Performs (workload_of c.args.workload.now) step c.args.asks.now c.args.self.now c.take_chunk.new.self done) (sym c.in-Chunk.is) (does c.args.asks.now))
    c.take_chunk.ensures

pub turn-requires : goal.turn-requires
turn-requires c = (workload_of c.args.workload.now, (c.args.asks.now, subst (λ (step : Step). MayPerform (workload_of c.args.workload.now) step c.args.asks.now c.args.self.now) c.in-Turn.is c.requires))

pub returns-in-Turn : goal.returns-in-Turn
returns-in-Turn c =
    IfOk-weaker c.turn.result _ _
    (λ done does. subst (λ (step : Step). Performs (workload_of c.args.workload.now) step c.args.asks.now c.args.self.now c.turn.new.self done) (sym c.in-Turn.is) (does c.args.asks.now))
    (c.turn.ensures (workload_of c.args.workload.now))
