use Rattle.hs_run.proofs.Coming.{no_rounds_come}
use Rattle.hs_run.proofs.story_laws.no_rounds_come.Goals as goal

pub returns : goal.returns
returns c = no_rounds_come
