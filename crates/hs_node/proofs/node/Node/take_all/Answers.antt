use Rattle.std.proofs.Common.{refl}
use Rattle.hs_node.specs.Passing.{TakesFrom}
use Rattle.hs_node.proofs.Joining.{on_more, on_nothing}
use Rattle.hs_node.proofs.Repeating.{each_more}
use Rattle.hs_node.proofs.node.Node.take_all.Goals as goal

pub loop-client-init : goal.loop-client-init
loop-client-init c = record { on = (λ run stands. on_nothing run c.args.self.now stands); does = (λ run stands. refl) }

pub loop-client-preserved : goal.loop-client-preserved
loop-client-preserved c =
    record {
      on = (λ run stands. on_more run c.args.self.now c.loop-client.self c.take_from.new.self (c.loop-client.invariant.on run stands) c.take_from.ensures.on);
      does = (λ run stands. each_more TakesFrom run c.loop-client.client c.args.self.now c.loop-client.self c.take_from.new.self (c.loop-client.invariant.does run stands) c.take_from.ensures.does);
    }
