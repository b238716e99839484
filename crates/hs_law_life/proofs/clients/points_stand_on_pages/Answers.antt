use Rattle.hs_live.proofs.Doing.{book_of}
use Rattle.hs_law_life.proofs.Standing.{all_stand, on_its_way}
use Rattle.hs_law_life.proofs.clients.points_stand_on_pages.Goals as goal

pub returns-clause-pages : goal.returns-clause-pages
returns-clause-pages c = all_stand (book_of c.any_steps_make_the_book.ensures) c.what_was_done_was_sent.ensures c.pages_hold_the_pieces.ensures

pub returns-clause-way : goal.returns-clause-way
returns-clause-way c = on_its_way (book_of c.any_steps_make_the_book.ensures) c.what_was_done_was_sent.ensures c.pages_hold_the_pieces.ensures
