use Rattle.hs_law_outcome.proofs.GotPages.{standings_are_of_got_pages}
use Rattle.hs_law_outcome.proofs.laws.standings_are_of_got_pages.Goals as goal

pub returns : goal.returns
returns c = standings_are_of_got_pages c.following_plays_out.ensures c.runs_are_of_the_journal.ensures c.taken_pages_were_drawn.ensures
