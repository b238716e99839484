use Rattle.hs_outcome.proofs.Fitting.{few_in_all}
use Rattle.hs_outcome.proofs.laws.records_are_few.Goals as goal

pub returns : goal.returns
returns c = few_in_all
