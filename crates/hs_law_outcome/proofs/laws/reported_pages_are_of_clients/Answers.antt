use Rattle.hs_law_outcome.proofs.ReportedRuns.{taken_pages_are_of_clients, reported_pages_are_of_clients}
use Rattle.hs_law_outcome.proofs.laws.reported_pages_are_of_clients.Goals as goal

pub returns : goal.returns
returns c =
    record {
      taken = taken_pages_are_of_clients c.following_plays_out.ensures c.runs_are_of_the_journal.ensures c.timed_pages_are_the_pages.ensures c.taken_pages_were_drawn.ensures;
      reported = reported_pages_are_of_clients c.following_plays_out.ensures c.runs_are_of_the_journal.ensures c.timed_pages_are_the_pages.ensures c.taken_pages_were_drawn.ensures;
    }
