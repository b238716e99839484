use Rattle.hs_pins.proofs.LookBack.{claims_stay}
use Rattle.hs_pins.proofs.laws.claims_stay.Goals as goal

pub returns : goal.returns
returns g c = λ node most rules later earlier. claims_stay node most rules later earlier
