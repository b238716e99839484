use Rattle.hs_journal.proofs.WholeTexts.{beginnings_same}
use Rattle.hs_journal.proofs.laws.beginnings_are_one.Goals as goal

pub returns : goal.returns
returns c = beginnings_same
