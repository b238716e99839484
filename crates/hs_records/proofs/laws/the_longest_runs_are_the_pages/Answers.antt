use Rattle.hs_records.proofs.Runs.{runs_of-joined}
use Rattle.hs_records.proofs.laws.the_longest_runs_are_the_pages.Goals as goal

pub returns : goal.returns
returns c = runs_of-joined
