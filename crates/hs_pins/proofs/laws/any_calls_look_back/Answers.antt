use Rattle.hs_pins.proofs.LookBack.{look_back}
use Rattle.hs_pins.proofs.laws.any_calls_look_back.Goals as goal

pub returns : goal.returns
returns g c = λ node most rules calls. look_back node most rules calls
