use Rattle.std.proofs.Common.{not, eqb, length, ap, ◌∙◌}
use Rattle.hs_report.proofs.Prelude.{is_of}
use Rattle.hs_base.proofs.Filters.{any_filtered}
use Rattle.hs_report.proofs.fates.Fates.has_record.Goals as goal

pub returns : goal.returns
returns c = λ entries are.
    ap not (c.is_empty.ensures ∙ ap (λ own. eqb (length own) 0) (c.of.ensures entries are)) ∙ any_filtered (is_of c.args.trace) entries
