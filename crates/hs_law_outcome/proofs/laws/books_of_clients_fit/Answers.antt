use Rattle.hs_law_outcome.proofs.ClientBooks.{books_of_clients_fit}
use Rattle.hs_law_outcome.proofs.laws.books_of_clients_fit.Goals as goal

pub returns : goal.returns
returns c = books_of_clients_fit c.pages_carry_the_records.ensures
