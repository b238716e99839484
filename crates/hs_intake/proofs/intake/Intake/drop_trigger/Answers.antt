use Rattle.std.proofs.Common.{length, sym, ap, subst, ◌∙◌}
use Rattle.hs_live.specs.Live.{Port}
use Rattle.hs_intake.specs.Intakes.{PlainIntake, Stands}
use Rattle.hs_intake.specs.IntakeLayout.{intake_in}
use Rattle.hs_intake.specs.Taking.{DropsOne}
use Rattle.hs_intake.proofs.Fronts.{dropped, drop_counted, drop_alive}
use Rattle.hs_intake.proofs.intake.Intake.drop_trigger.Goals as goal

pub returns-clause-drops : goal.returns-clause-drops
returns-clause-drops c = λ run stands.
    let d = intake_in c.self.inside in
    let there : Stands run d = subst (λ (x : PlainIntake). Stands run x) (sym c.self.view_is) stands in
    subst (λ (x : PlainIntake). DropsOne run c.args.client x c.is_some.result (record d { port = c.trigger.new.self })) c.self.view_is
    (subst (λ b. DropsOne run c.args.client d b (record d { port = c.trigger.new.self })) (sym c.is_some.ensures)
    (dropped run d c.args.client c.trigger.result c.trigger.new.self there c.trigger.ensures.received c.trigger.ensures.only))

pub invariant_of-self : goal.invariant_of-self
invariant_of-self c =
    let d = intake_in c.self.inside in
    let port = c.trigger.new.self in
    record {
      chunks = ap (λ (p : Port). length p.chunks) c.trigger.ensures.only ∙ c.self.invariant.chunks;
      crumbs = ap (λ (p : Port). length p.crumbs) c.trigger.ensures.only ∙ c.self.invariant.crumbs;
      triggers = drop_counted c.args.client d.clients c.trigger.result d.port.triggers port.triggers c.trigger.ensures.received c.self.invariant.triggers;
      late = c.self.invariant.late;
      stands = (λ alive. drop_alive d c.args.client c.trigger.result port (c.self.invariant.stands alive) c.trigger.ensures.received c.trigger.ensures.only);
    }
