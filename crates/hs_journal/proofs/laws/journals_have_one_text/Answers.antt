use Rattle.std.proofs.Common.{sym, ◌∙◌}
use Rattle.hs_journal.proofs.laws.journals_have_one_text.Goals as goal

pub returns : goal.returns
returns c = λ J text other reads reads_other. reads.spelled ∙ sym reads_other.spelled
