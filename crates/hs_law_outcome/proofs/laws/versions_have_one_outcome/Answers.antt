use Rattle.std.proofs.Common.{refl}
use Rattle.hs_law_outcome.proofs.laws.versions_have_one_outcome.Goals as goal

pub returns : goal.returns
returns c W J version = record { outcome = refl; reports = refl }
