use Rattle.hs_law_outcome.proofs.Stamps.{empty_draws_found_nothing}
use Rattle.hs_law_outcome.proofs.laws.empty_draws_found_nothing.Goals as goal

pub returns : goal.returns
returns c =
    empty_draws_found_nothing c.following_plays_out.ensures c.runs_are_of_the_journal.ensures c.gives_are_noted.ensures c.timed_pages_are_the_pages.ensures c.empty_only_where_empty.ensures
