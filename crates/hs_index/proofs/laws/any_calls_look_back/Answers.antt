use Rattle.hs_index.proofs.LookBack.{look_back}
use Rattle.hs_index.proofs.laws.any_calls_look_back.Goals as goal

pub returns : goal.returns
returns g c = λ threshold most calls. look_back threshold most calls
