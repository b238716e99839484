use Rattle.hs_law_journal.proofs.laws.known.Goals as goal

pub returns : goal.returns
returns c =
    record {
      plays = c.following_plays_out.ensures;
      agree = c.orders_agree.ensures;
      rests = c.done_is_at_rest.ensures;
      goes_on = c.journals_go_on.ensures;
      runs = c.runs_are_of_the_journal.ensures;
      noted = c.steps_are_noted.ensures;
      unsent = c.nothing_is_taken_unsent.ensures;
      comes = c.agents_come_by_events.ensures;
      adds = c.events_add_this.ensures;
      go_on = c.events_go_on.ensures;
      places = c.lists_have_their_chunks.ensures;
      few = c.events_add_few.ensures;
      says = c.steps_say_what_they_tell.ensures;
      reports = c.turns_report.ensures;
      stands = c.chunks_stand_by_their_claim.ensures;
      paged = c.timed_pages_are_the_pages.ensures;
      timely = c.timed_pages_are_timely.ensures;
      fit = c.pages_fit.ensures;
      counted = c.pieces_are_counted.ensures;
    }
