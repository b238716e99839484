use Rattle.hs_records.proofs.PageNumbers.{pages_are}
use Rattle.hs_records.proofs.laws.pages_carry_the_records.Goals as goal

pub returns : goal.returns
returns c = pages_are
