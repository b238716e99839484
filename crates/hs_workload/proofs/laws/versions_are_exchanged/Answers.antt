use Rattle.hs_workload.proofs.Versions.{in_version, widened}
use Rattle.hs_workload.proofs.laws.versions_are_exchanged.Goals as goal

pub returns-clause-fits : goal.returns-clause-fits
returns-clause-fits c = in_version

pub returns-clause-widens : goal.returns-clause-widens
returns-clause-widens c = widened
