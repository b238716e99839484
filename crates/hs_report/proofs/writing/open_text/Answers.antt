use Rattle.std.proofs.Common.{sym, subst}
use Rattle.hs_report.proofs.Prelude.{HasItsLists}
use Rattle.hs_report.proofs.Shapes.{has_its_lists}
use Rattle.hs_report.proofs.writing.open_text.Goals as goal

pub write_journal-requires : goal.write_journal-requires
write_journal-requires c =
    let W = c.requires.0 in
    let J = c.requires.1 in
    subst HasItsLists (sym c.requires.4.journal) (has_its_lists J (c.journals_can_be_read.ensures W J c.requires.2 c.requires.3).journal)
