use Rattle.bench.proofs.Pools.{drawn_is_out}
use Rattle.bench.proofs.pool.turn_plain.Goals as goal

pub give-requires-clause-out : goal.give-requires-clause-out
give-requires-clause-out c =
    drawn_is_out c.loop-round.invariant.0.0 c.loop-round.pool c.draw.new.self c.in-Got.held.chunk c.loop-round.invariant.0.1 c.in-Got.ensures.drawn.0 c.draw.ensures.buffers
