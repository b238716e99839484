use Rattle.std.proofs.Common.{sym, subst}
use Rattle.hs_report.proofs.Prelude.{HasItsLists, journal_of, AreSorted, Sorted}
use Rattle.hs_records.specs.declared.journal.Journal.{Journal}
use Rattle.hs_report.proofs.Shapes.{has_its_lists}
use Rattle.hs_report.proofs.parts.open_parts.Goals as goal

pub journal_part-requires : goal.journal_part-requires
journal_part-requires c =
    let W = c.requires.0 in
    let J = c.requires.1 in
    subst (λ (j : Journal). HasItsLists (journal_of j)) (sym c.taken_apart-journal.ensures.journal)
    (subst HasItsLists (sym c.requires.4.journal) (has_its_lists J (c.journals_can_be_read.ensures W J c.requires.2 c.requires.3).journal))

pub returns-clause-sorted : goal.returns-clause-sorted
returns-clause-sorted c = λ W J valid lawful is.
    subst (λ (s : Sorted). AreSorted W J c.args.outcome s) (sym c.taken_apart-journal.ensures.sorted) (c.in_ok-sorted.ensures W J valid lawful is)
