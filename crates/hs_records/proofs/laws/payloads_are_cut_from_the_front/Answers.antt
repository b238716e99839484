use Rattle.hs_records.proofs.Cuts.{pieces-short, pieces-long}
use Rattle.hs_records.proofs.laws.payloads_are_cut_from_the_front.Goals as goal

pub returns : goal.returns
returns c = record { fits = pieces-short; cut = pieces-long }
