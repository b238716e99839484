use Rattle.hs_law_journal.proofs.Orders.{following_plays_out}
use Rattle.hs_law_journal.proofs.laws.following_plays_out.Goals as goal

pub returns : goal.returns
returns c = following_plays_out c.steps_say_what_they_tell.ensures
