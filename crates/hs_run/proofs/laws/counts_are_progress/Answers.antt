use Rattle.hs_run.proofs.Counted.{counts_come}
use Rattle.hs_run.proofs.laws.counts_are_progress.Goals as goal

pub returns : goal.returns
returns c = counts_come
