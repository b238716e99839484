use Rattle.std.proofs.Common.{refl, ◌∙◌, arith}
use Rattle.hs_intake.specs.Intakes.{late_line}
use Rattle.hs_intake.proofs.Many.{none_yet, one_more, stopped, all_taken}
use Rattle.hs_intake.proofs.intake.Intake.take_lates.Goals as goal

pub loop-count-init : goal.loop-count-init
loop-count-init c =
    record {
      clients = refl;
      front = c.requires.front;
      so_far = (λ run stands. none_yet run late_line c.args.client c.args.self.now stands refl (let low = c.requires.low in let count = stands.late.count in omega (arith, low, count)));
    }

pub loop-count-preserved : goal.loop-count-preserved
loop-count-preserved c =
    record {
      clients = c.take_late.ensures.clients ∙ c.loop-count.invariant.clients;
      front = c.take_late.ensures.taken c.in_default.is;
      so_far = (λ run stands.
          one_more run late_line c.args.client (λ p xs ys. refl) c.args.self.now c.loop-count.self c.take_late.new.self c.loop-count.count (c.loop-count.invariant.so_far run stands)
          c.in_default.ensures.next);
    }

pub returns-in-Stopped : goal.returns-in-Stopped
returns-in-Stopped c =
    record {
      takes = (λ run stands.
          stopped run late_line c.args.client (λ p xs ys. refl) c.args.self.now c.loop-count.self c.take_late.new.self c.loop-count.count c.in-Stopped.stop
          (let low = c.loop-count-test.true in omega (arith, low)) (c.loop-count.invariant.so_far run stands) c.in-Stopped.ensures.next);
      clients = c.take_late.ensures.clients ∙ c.loop-count.invariant.clients;
    }

pub returns : goal.returns
returns c =
    record {
      takes = (λ run stands.
          all_taken run late_line c.args.client c.args.self.now c.loop-count.self c.loop-count.count
          (let high = c.loop-count-test.false in let low = c.loop-count.auto.count-end in omega (arith, high, low)) (c.loop-count.invariant.so_far run stands));
      clients = c.loop-count.invariant.clients;
    }
