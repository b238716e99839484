use Rattle.hs_law_outcome.proofs.Entries.{each_record_has_one_entry}
use Rattle.hs_law_outcome.proofs.laws.each_record_has_one_entry.Goals as goal

pub returns : goal.returns
returns c = each_record_has_one_entry c.pages_carry_the_records.ensures
