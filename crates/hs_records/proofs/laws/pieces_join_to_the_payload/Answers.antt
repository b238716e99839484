use Rattle.hs_records.proofs.Cuts.{pieces-joined}
use Rattle.hs_records.proofs.laws.pieces_join_to_the_payload.Goals as goal

pub returns : goal.returns
returns c = pieces-joined
