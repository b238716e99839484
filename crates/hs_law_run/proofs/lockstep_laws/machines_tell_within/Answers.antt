use Rattle.hs_law_run.proofs.Telling.{machines_tell_within}
use Rattle.hs_law_run.proofs.lockstep_laws.machines_tell_within.Goals as goal

pub returns : goal.returns
returns c = machines_tell_within c.following_plays_out.ensures c.crumbs_lead_below.ensures
