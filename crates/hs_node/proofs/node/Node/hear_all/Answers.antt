use Rattle.std.proofs.Common.{true, refl, subst}
use Rattle.hs_node.specs.Passing.{Hears}
use Rattle.hs_node.proofs.Joining.{on_more, on_nothing}
use Rattle.hs_node.proofs.Repeating.{each_more}
use Rattle.hs_node.proofs.node.Node.hear_all.Goals as goal

pub loop-init : goal.loop-init
loop-init c = record { on = (λ run stands. on_nothing run c.args.self.now stands); does = (λ run stands. refl) }

pub returns-then-not-hear-clause-on : goal.returns-then-not-hear-clause-on
returns-then-not-hear-clause-on c = λ run stands. on_more run c.args.self.now c.loop.self c.hear.new.self (c.loop.invariant.on run stands) c.hear.ensures.on

pub loop-preserved : goal.loop-preserved
loop-preserved c =
    record {
      on = (λ run stands. on_more run c.args.self.now c.loop.self c.hear.new.self (c.loop.invariant.on run stands) c.hear.ensures.on);
      does = (λ run stands. each_more (λ n. Hears c.args.client true) run c.loop.counter c.args.self.now c.loop.self c.hear.new.self (c.loop.invariant.does run stands)
          (λ later there. subst (λ b. Hears c.args.client b later c.loop.self c.hear.new.self) c.if-not-hear.false (c.hear.ensures.does later there)));
    }
