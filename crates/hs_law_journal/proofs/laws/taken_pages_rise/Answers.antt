use Rattle.hs_law_journal.proofs.Taking.{taken_pages_rise}
use Rattle.hs_law_journal.proofs.laws.taken_pages_rise.Goals as goal

pub returns : goal.returns
returns c = taken_pages_rise c.events_add_this.ensures
