use Rattle.hs_law_journal.proofs.Orders.{done_is_at_rest}
use Rattle.hs_law_journal.proofs.laws.done_is_at_rest.Goals as goal

pub returns : goal.returns
returns c = done_is_at_rest
