use Rattle.hs_records.proofs.Cuts.{pieces-full}
use Rattle.hs_records.proofs.laws.pieces_are_full.Goals as goal

pub returns : goal.returns
returns c = pieces-full
