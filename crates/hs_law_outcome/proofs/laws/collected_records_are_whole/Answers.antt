use Rattle.hs_law_outcome.proofs.CollectedReports.{collected_records_are_whole}
use Rattle.hs_law_outcome.proofs.laws.collected_records_are_whole.Goals as goal

pub returns : goal.returns
returns c =
    collected_records_are_whole c.following_plays_out.ensures c.runs_are_of_the_journal.ensures c.timed_pages_are_the_pages.ensures c.taken_pages_were_drawn.ensures c.taken_pages_rise.ensures c.clients_pages_rise.ensures
    c.agents_come_by_events.ensures c.pages_carry_the_records.ensures c.pages_hold_the_pieces.ensures c.pieces_join_to_the_payload.ensures c.pieces_are_counted.ensures c.reported_records_have_all_pages.ensures
    c.each_record_has_one_entry.ensures c.runs_decide_the_records.ensures.records
