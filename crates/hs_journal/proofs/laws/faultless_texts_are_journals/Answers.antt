use Rattle.hs_journal.proofs.WholeTexts.{faultless_reads, journal_has_no_fault}
use Rattle.hs_journal.proofs.laws.faultless_texts_are_journals.Goals as goal

pub returns : goal.returns
returns c = λ text. (faultless_reads text, λ some. journal_has_no_fault text some.journal some.reads)
