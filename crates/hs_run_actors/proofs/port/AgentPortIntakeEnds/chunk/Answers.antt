use Rattle.hs_run_actors.proofs.Prelude.{IfSome_then, linked, buffer_in}
use Rattle.hs_run_actors.proofs.Ports.{hands_so, line_at}
use Rattle.hs_run_actors.proofs.port.AgentPortIntakeEnds.chunk.Goals as goal

pub returns-clause-hands : goal.returns-clause-hands
returns-clause-hands c = hands_so c.args.self.now.chunks c.chunk.new.self.chunks c.args.client (buffer_in c.chunk.result) c.chunk.ensures.received

pub returns-clause-fact : goal.returns-clause-fact
returns-clause-fact c = IfSome_then c.chunk.result c.chunk.ensures.end (λ item fact. (linked fact.0, line_at c.args.self.now.chunks c.args.client fact.0 fact.1, fact.2))
