use Rattle.hs_run.proofs.Recounted.{recounted}
use Rattle.hs_run.proofs.story_laws.runs_are_lawful.Goals as goal

pub returns : goal.returns
returns c W rounds m passes nodes heard valid came begins closing over =
    recounted c.events_add_this.ensures c.callers_have_sent.ensures c.callers_sent_all.ensures c.stories_are_lawful.ensures W rounds m passes nodes heard valid came begins.links closing over
