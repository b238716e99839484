use Rattle.hs_law_outcome.proofs.Origins.{each_fate_has_its_cause}
use Rattle.hs_law_outcome.proofs.laws.each_fate_has_its_cause.Goals as goal

pub returns : goal.returns
returns c = each_fate_has_its_cause c.following_plays_out.ensures c.runs_are_of_the_journal.ensures c.chunks_are_taken_in_order.ensures c.timed_pages_are_the_pages.ensures
