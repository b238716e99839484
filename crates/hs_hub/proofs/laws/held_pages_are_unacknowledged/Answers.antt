use Rattle.hs_hub.proofs.Kept.{are_kept}
use Rattle.hs_hub.proofs.laws.held_pages_are_unacknowledged.Goals as goal

pub returns : goal.returns
returns c = are_kept
