use Rattle.hs_law_journal.proofs.Histories.{histories_are_decided}
use Rattle.hs_law_journal.proofs.laws.histories_are_decided.Goals as goal

pub returns : goal.returns
returns c = histories_are_decided
