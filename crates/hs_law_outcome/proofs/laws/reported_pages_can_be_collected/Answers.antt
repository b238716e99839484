use Rattle.hs_law_outcome.proofs.Addable.{reported_pages_can_be_collected}
use Rattle.hs_law_outcome.proofs.laws.reported_pages_can_be_collected.Goals as goal

pub returns : goal.returns
returns c =
    reported_pages_can_be_collected c.following_plays_out.ensures c.runs_are_of_the_journal.ensures c.timed_pages_are_the_pages.ensures c.taken_pages_were_drawn.ensures c.taken_pages_rise.ensures c.clients_pages_rise.ensures
    c.agents_come_by_events.ensures c.pages_carry_the_records.ensures c.pages_hold_the_pieces.ensures c.runs_decide_the_records.ensures.added
