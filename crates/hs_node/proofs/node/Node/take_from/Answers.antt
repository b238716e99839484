use Rattle.hs_node.proofs.Joining.{on_more}
use Rattle.hs_node.proofs.node.Node.take_from.Goals as goal

pub returns-clause-on : goal.returns-clause-on
returns-clause-on c = λ run stands.
    on_more run c.args.self.now c.take_lates.new.self c.take_triggers.new.self
    (on_more run c.args.self.now c.take_crumbs.new.self c.take_lates.new.self
    (on_more run c.args.self.now c.take_chunks.new.self c.take_crumbs.new.self
    (on_more run c.args.self.now c.hear_all.new.self c.take_chunks.new.self (c.hear_all.ensures.on run stands) c.take_chunks.ensures.on) c.take_crumbs.ensures.on) c.take_lates.ensures.on) c.take_triggers.ensures.on

pub returns-clause-does : goal.returns-clause-does
returns-clause-does c = λ run stands.
    record {
      mid = c.hear_all.new.self;
      does = c.hear_all.ensures.does run stands;
      next = (λ r at.
          record {
            mid = c.take_chunks.new.self;
            does = c.take_chunks.ensures.does r at;
            next = (λ r at.
                record {
                  mid = c.take_crumbs.new.self;
                  does = c.take_crumbs.ensures.does r at;
                  next = (λ r at. record { mid = c.take_lates.new.self; does = c.take_lates.ensures.does r at; next = c.take_triggers.ensures.does });
                });
          });
    }
