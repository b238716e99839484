use Rattle.hs_law_run.proofs.Versions.{versions_have_one_schedule}
use Rattle.hs_law_run.proofs.lockstep_laws.versions_have_one_schedule.Goals as goal

pub returns : goal.returns
returns c = versions_have_one_schedule
