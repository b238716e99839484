use Rattle.hs_law_outcome.proofs.WhollyReported.{reported_records_have_all_pages}
use Rattle.hs_law_outcome.proofs.laws.reported_records_have_all_pages.Goals as goal

pub returns : goal.returns
returns c =
    reported_records_have_all_pages c.following_plays_out.ensures c.runs_are_of_the_journal.ensures c.chunks_are_taken_in_order.ensures c.timed_pages_are_the_pages.ensures c.agents_keep_their_model.ensures c.taken_pages_were_drawn.ensures
    c.pages_carry_the_records.ensures
