use Rattle.std.proofs.Common.{refl, subst, ◌∙◌, arith}
use Rattle.hs_intake.specs.Taking.{DropsOne}
use Rattle.hs_intake.proofs.Fronts.{none_dropped, one_dropped}
use Rattle.hs_intake.proofs.intake.Intake.drop_triggers.Goals as goal

pub loop-count-init : goal.loop-count-init
loop-count-init c =
    record {
      clients = refl;
      so_far = (λ run stands. none_dropped run c.args.client c.args.self.now stands (let low = c.requires in let count = stands.triggers.count in omega (arith, low, count)));
    }

pub loop-count-preserved : goal.loop-count-preserved
loop-count-preserved c =
    record {
      clients = c.drop_trigger.ensures.clients ∙ c.loop-count.invariant.clients;
      so_far = (λ run stands.
          one_dropped run c.args.client c.args.self.now c.loop-count.self c.drop_trigger.new.self c.loop-count.count (c.loop-count.invariant.so_far run stands)
          (λ later there. subst (λ b. DropsOne later c.args.client c.loop-count.self b c.drop_trigger.new.self) c.if-not-drop_trigger.false (c.drop_trigger.ensures.drops later there)));
    }
