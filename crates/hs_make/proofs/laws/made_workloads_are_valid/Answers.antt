use Rattle.hs_make.proofs.Valid.{is_valid}
use Rattle.hs_make.proofs.laws.made_workloads_are_valid.Goals as goal

pub returns : goal.returns
returns c = is_valid
