use Rattle.hs_pool.proofs.Waiting.{drawn_from}
use Rattle.hs_pool.proofs.plain.PlainPool.draw.Goals as goal

pub invariant_of-self : goal.invariant_of-self
invariant_of-self c = drawn_from c.self.inside _ c.self.invariant c.pop_front.ensures.rest c.pop_front.ensures.capacity
