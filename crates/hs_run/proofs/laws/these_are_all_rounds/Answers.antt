use Rattle.hs_run.proofs.AllRounds.{all_rounds}
use Rattle.hs_run.proofs.laws.these_are_all_rounds.Goals as goal

pub returns : goal.returns
returns c = all_rounds
