use Rattle.hs_law_outcome.proofs.DrawnChunks.{taken_pages_were_drawn}
use Rattle.hs_law_outcome.proofs.laws.taken_pages_were_drawn.Goals as goal

pub returns : goal.returns
returns c = taken_pages_were_drawn c.following_plays_out.ensures c.runs_are_of_the_journal.ensures c.chunks_are_taken_in_order.ensures
