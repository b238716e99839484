use Rattle.hs_run_actors.proofs.Prelude.{IfSome_then, buffer_in, closed, remaining}
use Rattle.hs_run_actors.proofs.Resting.{buffered, hands_left, gives_buffered, buffered_line}
use Rattle.hs_run_actors.proofs.rests.RestsIntakeEnds.chunk.Goals as goal

pub returns-clause-hands : goal.returns-clause-hands
returns-clause-hands c =
    let old = c.args.self.now.chunks.items in
    let new = c.next_at.new.rests.items in
    hands_left (buffered old) (buffered new) c.args.client (buffer_in c.next_at.result) (gives_buffered old new c.args.client c.next_at.result c.next_at.ensures.gives)

pub returns-clause-fact : goal.returns-clause-fact
returns-clause-fact c = IfSome_then c.next_at.result c.next_at.ensures.fact (λ item fact. (closed (remaining fact.0), buffered_line c.args.self.now.chunks.items c.args.client fact.0 fact.1, fact.2))
