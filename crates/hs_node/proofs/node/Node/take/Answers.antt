use Rattle.hs_node.proofs.Joining.{on_more}
use Rattle.hs_node.proofs.node.Node.take.Goals as goal

pub returns-clause-on : goal.returns-clause-on
returns-clause-on c = λ run stands.
    on_more run c.args.self.now c.take_asks.new.self c.hear_each.new.self
    (on_more run c.args.self.now c.take_all.new.self c.take_asks.new.self
    (on_more run c.args.self.now c.take_back.new.self c.take_all.new.self
    (on_more run c.args.self.now c.say.new.self c.take_back.new.self (c.say.ensures.on run stands) c.take_back.ensures.on) c.take_all.ensures.on) c.take_asks.ensures.on) c.hear_each.ensures.on

pub returns-clause-does : goal.returns-clause-does
returns-clause-does c = λ run stands.
    record {
      mid = c.say.new.self;
      does = c.say.ensures.does run stands;
      next = (λ r at.
          record {
            mid = c.take_back.new.self;
            does = c.take_back.ensures.does r at;
            next = (λ r at.
                record {
                  mid = c.take_all.new.self;
                  does = c.take_all.ensures.does r at;
                  next = (λ r at. record { mid = c.take_asks.new.self; does = c.take_asks.ensures.does r at; next = c.hear_each.ensures.does });
                });
          });
    }
