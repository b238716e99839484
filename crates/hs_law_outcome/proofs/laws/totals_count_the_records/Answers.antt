use Rattle.hs_law_outcome.proofs.Totals.{totals_count_the_records}
use Rattle.hs_law_outcome.proofs.laws.totals_count_the_records.Goals as goal

pub returns : goal.returns
returns c = totals_count_the_records c.each_record_has_one_entry.ensures
