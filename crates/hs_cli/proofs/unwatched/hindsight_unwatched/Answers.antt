use Rattle.hs_cli.proofs.Completion.{completed}
use Rattle.hs_cli.proofs.unwatched.hindsight_unwatched.Goals as goal

pub returns-clause-complete : goal.returns-clause-complete
returns-clause-complete g c command W journal status is will comes steady still =
    completed c.one_workload_a_text.ensures.once c.texts_have_one_journal.ensures _ _ _ _ _ _ _ _ _ command W journal status is will comes steady still c.call.result c.call.ensures.ends
