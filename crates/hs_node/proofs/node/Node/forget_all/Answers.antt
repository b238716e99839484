use Rattle.std.proofs.Common.{true, refl, subst, arith}
use Rattle.hs_node.specs.Passing.{ForgetsOne}
use Rattle.hs_node.proofs.Joining.{on_more, on_nothing}
use Rattle.hs_node.proofs.Repeating.{each_more, until_stop}
use Rattle.hs_node.proofs.node.Node.forget_all.Goals as goal

pub loop-init : goal.loop-init
loop-init c = record { on = (λ run stands. on_nothing run c.args.self.now stands); does = (λ run stands. refl) }

pub returns-then-not-forget-clause-on : goal.returns-then-not-forget-clause-on
returns-then-not-forget-clause-on c = λ run stands. on_more run c.args.self.now c.loop.self c.forget.new.self (c.loop.invariant.on run stands) c.forget.ensures.on

pub loop-preserved : goal.loop-preserved
loop-preserved c =
    record {
      on = (λ run stands. on_more run c.args.self.now c.loop.self c.forget.new.self (c.loop.invariant.on run stands) c.forget.ensures.on);
      does = (λ run stands. each_more (λ n. ForgetsOne true) run c.loop.counter c.args.self.now c.loop.self c.forget.new.self (c.loop.invariant.does run stands)
          (λ later there. subst (λ b. ForgetsOne b later c.loop.self c.forget.new.self) c.if-not-forget.false (c.forget.ensures.does later there)));
    }

pub returns-then-not-forget-clause-does : goal.returns-then-not-forget-clause-does
returns-then-not-forget-clause-does c = λ run stands.
    until_stop ForgetsOne 64 run c.loop.counter c.args.self.now c.loop.self c.forget.new.self (let low = c.loop-test.true in omega (arith, low)) (c.loop.invariant.does run stands)
    (λ later there. subst (λ b. ForgetsOne b later c.loop.self c.forget.new.self) c.if-not-forget.true (c.forget.ensures.does later there))
