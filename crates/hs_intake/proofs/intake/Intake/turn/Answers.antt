use Rattle.hs_intake.specs.IntakeLayout.{intake_in}
use Rattle.hs_intake.proofs.Acts.{turn_alive}
use Rattle.hs_intake.proofs.intake.Intake.turn.Goals as goal

pub invariant_of-self : goal.invariant_of-self
invariant_of-self c =
    record {
      chunks = c.self.invariant.chunks;
      crumbs = c.self.invariant.crumbs;
      triggers = c.self.invariant.triggers;
      late = c.self.invariant.late;
      stands = turn_alive (intake_in c.self.inside) c.turn.new.self c.turn.result c.turn.ensures.after c.turn.ensures.spent c.turn.ensures.stays c.self.invariant.stands;
    }
