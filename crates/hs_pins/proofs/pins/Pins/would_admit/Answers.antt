use Rattle.std.proofs.Common.{refl}
use Rattle.hs_pins.proofs.Prelude.{Admitted, Limited}
use Rattle.hs_pins.proofs.Remembering.{bucket_there, answered_so}
use Rattle.hs_pins.proofs.pins.Pins.would_admit.Goals as goal

pub would_attempt-requires : goal.would_attempt-requires
would_attempt-requires g c = bucket_there _ c.args.self.now c.requires.0 c.args.trigger c.self.view_is c.requires.1 c.requires.2

pub returns-in-Admitted : goal.returns-in-Admitted
returns-in-Admitted g c = λ memory h.
    answered_so _ c.args.self.now memory c.in-Admitted.ensures.0 c.args.trigger c.args.moment Admitted _ c.self.view_is h c.in-Admitted.ensures.1 refl

pub returns-in-Limited : goal.returns-in-Limited
returns-in-Limited g c = λ memory h.
    answered_so _ c.args.self.now memory c.in-Limited.ensures.0 c.args.trigger c.args.moment (Limited c.in-Limited.level) _ c.self.view_is h c.in-Limited.ensures.1 refl
