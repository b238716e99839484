use Rattle.hs_law_run.proofs.Spent.{gives_answer_draws}
use Rattle.hs_law_run.proofs.laws.doings_answer_draws.Goals as goal

pub returns : goal.returns
returns c = gives_answer_draws c.doings_are_followed.ensures
