use Rattle.std.proofs.Common.{refl}
use Rattle.hs_report.proofs.laws.lawful_journals_can_be_read.Goals as goal

pub returns : goal.returns
returns c W J ends laid room lawful = record { journal = c.lawful_journals_are_journals.ensures W J ends laid room lawful; spelled = refl }
