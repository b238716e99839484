use Rattle.std.proofs.Common.{true, refl, arith}
use Rattle.hs_node.specs.declared.pass.TheConstants.{MOST_OFFERS}
use Rattle.hs_node.specs.Passing.{OffersOne}
use Rattle.hs_node.proofs.Joining.{on_more, on_nothing}
use Rattle.hs_node.proofs.Repeating.{each_more, until_stop}
use Rattle.hs_node.proofs.node.Node.offer_all.Goals as goal

pub loop-init : goal.loop-init
loop-init c = record { on = (λ run stands. on_nothing run c.args.self.now stands); does = (λ run stands. refl) }

pub returns-in-None-clause-on : goal.returns-in-None-clause-on
returns-in-None-clause-on c = λ run stands. on_more run c.args.self.now c.loop.self c.offer.new.self (c.loop.invariant.on run stands) c.in-None.ensures.on

pub loop-preserved : goal.loop-preserved
loop-preserved c =
    record {
      on = (λ run stands. on_more run c.args.self.now c.loop.self c.offer.new.self (c.loop.invariant.on run stands) c.in-Offered.ensures.on);
      does = (λ run stands. each_more (λ n. OffersOne true) run c.loop.counter c.args.self.now c.loop.self c.offer.new.self (c.loop.invariant.does run stands) c.in-Offered.ensures.does);
    }

pub returns-in-None-clause-does : goal.returns-in-None-clause-does
returns-in-None-clause-does c = λ run stands done.
    until_stop OffersOne MOST_OFFERS run c.loop.counter c.args.self.now c.loop.self c.offer.new.self (let low = c.loop-test.true in omega (arith, low)) (c.loop.invariant.does run stands) c.in-None.ensures.does
