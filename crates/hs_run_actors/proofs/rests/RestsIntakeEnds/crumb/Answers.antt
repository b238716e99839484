use Rattle.hs_run_actors.proofs.Prelude.{IfSome_then, closed}
use Rattle.hs_run_actors.proofs.Resting.{hands_left, rest_at}
use Rattle.hs_run_actors.proofs.rests.RestsIntakeEnds.crumb.Goals as goal

pub returns-clause-hands : goal.returns-clause-hands
returns-clause-hands c = hands_left c.args.self.now.crumbs.items c.next_at.new.rests.items c.args.client c.next_at.result c.next_at.ensures.gives

pub returns-clause-fact : goal.returns-clause-fact
returns-clause-fact c = IfSome_then c.next_at.result c.next_at.ensures.fact (λ item fact. (closed fact.0, rest_at c.args.self.now.crumbs.items c.args.client fact.0 fact.1, fact.2))
