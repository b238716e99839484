use Rattle.hs_run.proofs.Further.{goes_on}
use Rattle.hs_run.proofs.story_laws.closing_goes_on.Goals as goal

pub returns : goal.returns
returns c = goes_on
