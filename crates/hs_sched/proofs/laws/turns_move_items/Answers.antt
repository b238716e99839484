use Rattle.hs_sched.proofs.MovingLemmas.{turns_move}
use Rattle.hs_sched.proofs.laws.turns_move_items.Goals as goal

pub returns : goal.returns
returns g c = turns_move g.Q.Queues.costs g.Q.Queues.sends
