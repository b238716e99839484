use Rattle.hs_run.proofs.Coming.{rounds_go_on}
use Rattle.hs_run.proofs.story_laws.rounds_go_on.Goals as goal

pub returns : goal.returns
returns c = rounds_go_on
