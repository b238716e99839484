use Rattle.hs_run.proofs.Moments.{hear_all}
use Rattle.hs_run.proofs.rounds.hear.Goals as goal

pub returns : goal.returns
returns g c = hear_all c.pass.result c.args.coordinator.now c.pass.new.self c.pass.ensures
