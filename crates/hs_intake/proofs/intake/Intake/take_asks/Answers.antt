use Rattle.std.proofs.Common.{arith}
use Rattle.hs_intake.proofs.Asks.{none_asked, one_ask_more, asks_stopped, all_asked}
use Rattle.hs_intake.proofs.intake.Intake.take_asks.Goals as goal

pub loop-count-init : goal.loop-count-init
loop-count-init c = record { so_far = (λ run stands. none_asked run c.args.self.now stands) }

pub loop-count-preserved : goal.loop-count-preserved
loop-count-preserved c =
    record { so_far = (λ run stands. one_ask_more run c.args.self.now c.loop-count.self c.take_ask.new.self c.loop-count.count (c.loop-count.invariant.so_far run stands) c.in_default.ensures) }

pub returns-in-Stopped : goal.returns-in-Stopped
returns-in-Stopped c = λ run stands.
    asks_stopped run c.args.self.now c.loop-count.self c.take_ask.new.self c.loop-count.count c.in-Stopped.stop (let low = c.loop-count-test.true in omega (arith, low))
    (c.loop-count.invariant.so_far run stands) c.in-Stopped.ensures

pub returns : goal.returns
returns c = λ run stands.
    all_asked run c.args.self.now c.loop-count.self c.loop-count.count (let high = c.loop-count-test.false in let low = c.loop-count.auto.count-end in omega (arith, high, low))
    (c.loop-count.invariant.so_far run stands)
