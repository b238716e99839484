use Rattle.hs_law_run.proofs.Shapes.{schedule_has_shape}
use Rattle.hs_law_run.proofs.lockstep_laws.schedule_has_shape.Goals as goal

pub returns : goal.returns
returns c = schedule_has_shape c.known.ensures
