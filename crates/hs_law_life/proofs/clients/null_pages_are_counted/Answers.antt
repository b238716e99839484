use Rattle.hs_live.proofs.Doing.{book_of}
use Rattle.hs_law_life.proofs.Nulls.{begins_new, does, does_none, begins, counts}
use Rattle.hs_law_life.proofs.clients.null_pages_are_counted.Goals as goal

pub returns-clause-new : goal.returns-clause-new
returns-clause-new c = begins_new

pub returns-clause-does : goal.returns-clause-does
returns-clause-does c = does

pub returns-clause-none : goal.returns-clause-none
returns-clause-none c = does_none

pub returns-clause-begins : goal.returns-clause-begins
returns-clause-begins c = begins (book_of c.any_steps_make_the_book.ensures) c.what_was_done_was_sent.ensures

pub returns-clause-counted : goal.returns-clause-counted
returns-clause-counted c = λ life client has order.
    counts c.what_was_done_was_sent.ensures life client has (c.points_stand_on_pages.ensures.pages life client.live has.lives order)
