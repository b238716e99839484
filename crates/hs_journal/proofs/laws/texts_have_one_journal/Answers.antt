use Rattle.hs_journal.proofs.WholeTexts.{one_journal}
use Rattle.hs_journal.proofs.laws.texts_have_one_journal.Goals as goal

pub returns : goal.returns
returns c = one_journal
