use Rattle.hs_law_run.proofs.Ending.{closing_ends}
use Rattle.hs_law_run.proofs.lockstep_laws.closing_ends.Goals as goal

pub returns : goal.returns
returns c = closing_ends c.schedule_is_bare.ensures c.pieces_are_counted.ensures c.valid_workloads_run.ensures
