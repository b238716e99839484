use Rattle.hs_law_outcome.proofs.Readable.{lawful_journals_are_journals}
use Rattle.hs_law_outcome.proofs.laws.lawful_journals_are_journals.Goals as goal

pub returns : goal.returns
returns c = lawful_journals_are_journals c.following_plays_out.ensures c.runs_are_of_the_journal.ensures c.gives_are_noted.ensures c.timed_pages_are_the_pages.ensures
