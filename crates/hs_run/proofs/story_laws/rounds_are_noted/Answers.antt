use Rattle.hs_run.proofs.StoryNoted.{noted}
use Rattle.hs_run.proofs.story_laws.rounds_are_noted.Goals as goal

pub returns : goal.returns
returns c = noted
