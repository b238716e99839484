use Rattle.std.proofs.Common.{not, refl, ◌∙◌, arith}
use Rattle.hs_intake.proofs.Triggers.{one_at_most, no_trigger_yet, one_trigger_more, triggers_stopped, all_triggers}
use Rattle.hs_intake.proofs.intake.Intake.take_triggers.Goals as goal

pub loop-count-init : goal.loop-count-init
loop-count-init c =
    record {
      clients = refl;
      front = c.requires.front;
      low = omega arith;
      so_far = (λ run stands. no_trigger_yet run c.args.client c.args.self.now stands (let low = c.requires.low in let count = stands.triggers.count in omega (arith, low, count)));
    }

pub loop-count-preserved : goal.loop-count-preserved
loop-count-preserved c =
    record {
      clients = c.take_trigger.ensures.clients ∙ c.loop-count.invariant.clients;
      front = c.take_trigger.ensures.taken c.in-Taken.tells c.in-Taken.is;
      low = (let low = c.loop-count.invariant.low in let is = c.from-limited.ensures in let one = one_at_most (not c.in-Taken.tells) in omega (arith, low, is, one));
      so_far = (λ run stands.
          one_trigger_more run c.args.client c.args.self.now c.loop-count.self c.take_trigger.new.self c.loop-count.count c.loop-count.limited c.from-limited.result c.in-Taken.tells
          c.from-limited.ensures (c.loop-count.invariant.so_far run stands) c.in-Taken.ensures.next);
    }

pub returns-in-Stopped : goal.returns-in-Stopped
returns-in-Stopped c =
    record {
      takes = (λ run stands.
          triggers_stopped run c.args.client c.args.self.now c.loop-count.self c.take_trigger.new.self c.loop-count.count c.loop-count.limited c.in-Stopped.stop
          (let low = c.loop-count-test.true in omega (arith, low)) (c.loop-count.invariant.so_far run stands) c.in-Stopped.ensures.next);
      clients = c.take_trigger.ensures.clients ∙ c.loop-count.invariant.clients;
    }

pub returns : goal.returns
returns c =
    record {
      takes = (λ run stands.
          all_triggers run c.args.client c.args.self.now c.loop-count.self c.loop-count.count c.loop-count.limited
          (let high = c.loop-count-test.false in let low = c.loop-count.auto.count-end in omega (arith, high, low)) (c.loop-count.invariant.so_far run stands));
      clients = c.loop-count.invariant.clients;
    }
