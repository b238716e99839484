use Rattle.hs_run.proofs.Kept.{pools_kept}
use Rattle.hs_run.proofs.story_laws.pools_are_kept.Goals as goal

pub returns : goal.returns
returns c = pools_kept
