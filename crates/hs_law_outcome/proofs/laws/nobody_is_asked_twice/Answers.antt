use Rattle.hs_law_outcome.proofs.Asking.{nobody_is_asked_twice}
use Rattle.hs_law_outcome.proofs.laws.nobody_is_asked_twice.Goals as goal

pub returns : goal.returns
returns c = nobody_is_asked_twice
