use Rattle.std.proofs.Common.{Bool, subst}
use Rattle.hs_node.specs.Nodes.{GoesOnIf}
use Rattle.hs_node.proofs.Joining.{on_more}
use Rattle.hs_node.proofs.node.Node.pass.Goals as goal

pub returns-clause-on : goal.returns-clause-on
returns-clause-on c = λ run stands.
    on_more run c.args.self.now c.state_all.new.self c.forget_all.new.self
    (on_more run c.args.self.now c.offer_all.new.self c.state_all.new.self
    (on_more run c.args.self.now c.turn.new.self c.offer_all.new.self
    (on_more run c.args.self.now c.take.new.self c.turn.new.self (c.take.ensures.on run stands)
    (λ later there. subst (λ (b : Bool). GoesOnIf later b c.take.new.self c.turn.new.self) c.if-not-turn.false (c.turn.ensures.on later there)))
    (λ later there. subst (λ (b : Bool). GoesOnIf later b c.turn.new.self c.offer_all.new.self) c.if-not-offer_all.false (c.offer_all.ensures.on later there)))
    c.state_all.ensures.on) c.forget_all.ensures.on

pub returns-clause-does : goal.returns-clause-does
returns-clause-does c = λ run stands done.
    record {
      mid = c.take.new.self;
      does = c.take.ensures.does run stands;
      next = (λ r at.
          record {
            mid = c.turn.new.self;
            does = c.turn.ensures.does r at c.if-not-turn.false;
            next = (λ r at.
                record {
                  mid = c.offer_all.new.self;
                  does = c.offer_all.ensures.does r at c.if-not-offer_all.false;
                  next = (λ r at. record { mid = c.state_all.new.self; does = c.state_all.ensures.does r at; next = c.forget_all.ensures.does });
                });
          });
    }
