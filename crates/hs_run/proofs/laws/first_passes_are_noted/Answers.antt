use Rattle.hs_run.proofs.Noted.{first_noted}
use Rattle.hs_run.proofs.laws.first_passes_are_noted.Goals as goal

pub returns : goal.returns
returns c = first_noted
