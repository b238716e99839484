use Rattle.std.proofs.Common.{refl}
use Rattle.hs_pins.proofs.Prelude.{Admitted, Limited}
use Rattle.hs_pins.proofs.Remembering.{bucket_there, tried}
use Rattle.hs_pins.proofs.pins.Pins.admit.Goals as goal

pub attempt-requires : goal.attempt-requires
attempt-requires g c = bucket_there _ c.args.self.now c.requires.declared.0 c.args.trigger c.self.view_is c.requires.declared.1 c.requires.declared.2

pub returns-in-Admitted-clause-after : goal.returns-in-Admitted-clause-after
returns-in-Admitted-clause-after g c = λ memory h.
    tried _ c.args.self.now memory c.attempt.new.buckets.entries c.args.trigger c.args.moment _ Admitted c.self.view_is h c.in-Admitted.ensures refl

pub returns-in-Limited-clause-after : goal.returns-in-Limited-clause-after
returns-in-Limited-clause-after g c = λ memory h.
    tried _ c.args.self.now memory c.attempt.new.buckets.entries c.args.trigger c.args.moment _ (Limited c.in-Limited.level) c.self.view_is h c.in-Limited.ensures refl
