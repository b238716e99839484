use Rattle.std.proofs.Common.{ap, ◌∙◌}
use Rattle.hs_pins.proofs.Prelude.{with_mark}
use Rattle.hs_pins.proofs.abandon.mark.Goals as goal

pub returns-clause-marks : goal.returns-clause-marks
returns-clause-marks c = c.in-Ok.ensures.keys ∙ ap (with_mark c.args.abandoned.now.keys) c.of.ensures
