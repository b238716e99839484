use Rattle.hs_records.proofs.Cuts.{pieces-counted}
use Rattle.hs_records.proofs.laws.pieces_are_counted.Goals as goal

pub returns : goal.returns
returns c = pieces-counted
