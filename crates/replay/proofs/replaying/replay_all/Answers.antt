use Rattle.replay.proofs.Completion.{completed}
use Rattle.replay.proofs.replaying.replay_all.Goals as goal

pub returns-clause-complete : goal.returns-clause-complete
returns-clause-complete g c input W is reads short steady still = completed _ _ _ _ _ _ _ _ input W is reads short steady still c.call.result c.call.ensures
