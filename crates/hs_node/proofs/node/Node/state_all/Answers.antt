use Rattle.std.proofs.Common.{true, refl, subst}
use Rattle.hs_node.specs.Passing.{StatesOne, StatesNext}
use Rattle.hs_node.proofs.Joining.{on_more, on_nothing}
use Rattle.hs_node.proofs.Repeating.{each_more}
use Rattle.hs_node.proofs.node.Node.state_all.Goals as goal

pub loop-init : goal.loop-init
loop-init c = record { on = (λ run stands. on_nothing run c.args.self.now stands); does = (λ run stands. refl) }

pub returns-then-in_hand-ne0-clause-on : goal.returns-then-in_hand-ne0-clause-on
returns-then-in_hand-ne0-clause-on c = λ run stands. on_nothing run c.args.self.now stands

pub returns-then-not-state-clause-on : goal.returns-then-not-state-clause-on
returns-then-not-state-clause-on c = λ run stands. on_more run c.args.self.now c.loop.self c.state.new.self (c.loop.invariant.on run stands) c.state.ensures.on

pub loop-preserved : goal.loop-preserved
loop-preserved c =
    record {
      on = (λ run stands.
          on_more run c.args.self.now c.state.new.self c.look_on.new.self
          (on_more run c.args.self.now c.loop.self c.state.new.self (c.loop.invariant.on run stands) c.state.ensures.on) c.look_on.ensures.on);
      does = (λ run stands. each_more (λ n. StatesOne true) run c.loop.counter c.args.self.now c.loop.self c.look_on.new.self (c.loop.invariant.does run stands)
          (λ later there.
          record {
            mid = c.state.new.self;
            does = subst (λ b. StatesNext b later c.loop.self c.state.new.self) c.if-not-state.false (c.state.ensures.does later there);
            next = c.look_on.ensures.does;
          }));
    }
