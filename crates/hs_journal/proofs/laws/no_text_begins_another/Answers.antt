use Rattle.hs_journal.proofs.WholeTexts.{no_beginning}
use Rattle.hs_journal.proofs.laws.no_text_begins_another.Goals as goal

pub returns : goal.returns
returns c = no_beginning
