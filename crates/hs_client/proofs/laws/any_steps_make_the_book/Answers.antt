use Rattle.hs_client.proofs.AllSteps.{book}
use Rattle.hs_client.proofs.laws.any_steps_make_the_book.Goals as goal

pub returns : goal.returns
returns g c = λ client size calls steps are. book c.the_longest_runs_are_the_pages.ensures client size calls steps are
