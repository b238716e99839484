use Rattle.hs_law_journal.proofs.Taking.{chunks_are_taken_in_order}
use Rattle.hs_law_journal.proofs.laws.chunks_are_taken_in_order.Goals as goal

pub returns : goal.returns
returns c = chunks_are_taken_in_order c.events_add_this.ensures
