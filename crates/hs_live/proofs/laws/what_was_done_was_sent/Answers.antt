use Rattle.hs_live.proofs.Doing.{book_of}
use Rattle.hs_live.proofs.Sending.{has_sent}
use Rattle.hs_live.proofs.laws.what_was_done_was_sent.Goals as goal

pub returns : goal.returns
returns c = λ made ops client h. has_sent made ops client h (book_of c.any_steps_make_the_book.ensures made)
