use Rattle.hs_law_outcome.proofs.OneStanding.{each_got_page_has_one_standing}
use Rattle.hs_law_outcome.proofs.laws.each_got_page_has_one_standing.Goals as goal

pub returns : goal.returns
returns c =
    each_got_page_has_one_standing c.following_plays_out.ensures c.runs_are_of_the_journal.ensures c.chunks_are_taken_in_order.ensures c.timed_pages_are_the_pages.ensures
