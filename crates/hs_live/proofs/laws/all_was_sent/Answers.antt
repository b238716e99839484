use Rattle.hs_live.proofs.Sending.{has_sent_all}
use Rattle.hs_live.proofs.laws.all_was_sent.Goals as goal

pub returns : goal.returns
returns c = λ made ops client h bracketed. has_sent_all made ops client (c.what_was_done_was_sent.ensures made ops client h) c.timed_pages_are_the_pages.ensures bracketed
