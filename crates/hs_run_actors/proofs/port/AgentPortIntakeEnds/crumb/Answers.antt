use Rattle.hs_run_actors.proofs.Prelude.{IfSome_then, linked}
use Rattle.hs_run_actors.proofs.Ports.{hands_so, line_at}
use Rattle.hs_run_actors.proofs.port.AgentPortIntakeEnds.crumb.Goals as goal

pub returns-clause-hands : goal.returns-clause-hands
returns-clause-hands c = hands_so c.args.self.now.crumbs c.crumb.new.self.crumbs c.args.client c.crumb.result c.crumb.ensures.received

pub returns-clause-fact : goal.returns-clause-fact
returns-clause-fact c = IfSome_then c.crumb.result c.crumb.ensures.fact (λ item fact. (linked fact.0, line_at c.args.self.now.crumbs c.args.client fact.0 fact.1, fact.2))
