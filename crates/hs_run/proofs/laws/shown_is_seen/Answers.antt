use Rattle.hs_run.proofs.Seeing.{shown_seen}
use Rattle.hs_run.proofs.laws.shown_is_seen.Goals as goal

pub returns : goal.returns
returns c = shown_seen
