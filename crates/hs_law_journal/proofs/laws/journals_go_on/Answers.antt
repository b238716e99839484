use Rattle.hs_law_journal.proofs.Extending.{journals_go_on}
use Rattle.hs_law_journal.proofs.laws.journals_go_on.Goals as goal

pub returns : goal.returns
returns c = journals_go_on c.following_plays_out.ensures
