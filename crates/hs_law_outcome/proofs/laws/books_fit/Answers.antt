use Rattle.hs_law_outcome.proofs.OneStanding.{books_fit}
use Rattle.hs_law_outcome.proofs.laws.books_fit.Goals as goal

pub returns : goal.returns
returns c =
    books_fit c.books_of_clients_fit.ensures c.standings_are_of_got_pages.ensures c.each_got_page_has_one_standing.ensures
