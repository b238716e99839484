use Rattle.hs_run.proofs.Coming.{rounds_keep_what_came}
use Rattle.hs_run.proofs.story_laws.rounds_keep_what_came.Goals as goal

pub returns : goal.returns
returns c = rounds_keep_what_came
