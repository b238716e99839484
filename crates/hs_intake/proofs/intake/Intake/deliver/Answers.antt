use Rattle.hs_intake.specs.IntakeLayout.{intake_in}
use Rattle.hs_intake.proofs.Asks.{inbox_moved, rules_stay}
use Rattle.hs_intake.proofs.intake.Intake.deliver.Goals as goal

pub invariant_of-self : goal.invariant_of-self
invariant_of-self c =
    let d = intake_in c.self.inside in
    record {
      chunks = c.self.invariant.chunks;
      crumbs = c.self.invariant.crumbs;
      triggers = c.self.invariant.triggers;
      late = c.self.invariant.late;
      stands = (λ alive.
          let known = c.self.invariant.stands alive in
          (known.0, inbox_moved known.0 d c.deliver.new.self known.1 (rules_stay d.inbox c.deliver.new.self c.args.bytes.now c.deliver.result c.deliver.ensures)));
    }
