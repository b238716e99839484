use Rattle.hs_hub.proofs.Fate.{held_or_saved}
use Rattle.hs_hub.proofs.laws.held_pages_stay_until_they_are_saved.Goals as goal

pub returns : goal.returns
returns c = held_or_saved
