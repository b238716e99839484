use Rattle.hs_claimed.proofs.Told.{are_told}
use Rattle.hs_claimed.proofs.laws.what_was_told_was_named.Goals as goal

pub returns : goal.returns
returns c = record { told = are_told }
