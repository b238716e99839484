use Rattle.hs_run.proofs.Drawn.{notes_rounds}
use Rattle.hs_run.proofs.story_laws.journals_note_rounds.Goals as goal

pub returns : goal.returns
returns c = notes_rounds c.callers_have_sent.ensures c.rounds_are_noted.ensures
