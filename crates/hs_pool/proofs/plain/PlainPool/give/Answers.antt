use Rattle.std.proofs.Common.{◌++◌, ◌∷◌, [], None, subst, sym, ap, ◌∙◌, ◌+◌, arith}
use Rattle.std.specs.VecDeque.{deque_capacity}
use Rattle.hs_words.specs.Chunks.{Contents, with_page}
use Rattle.hs_pool.specs.Pool.{Pool, IsOut}
use Rattle.hs_pool.specs.Queue.{pool_of}
use Rattle.hs_pool.proofs.Waiting.{has_room, given_to, given}
use Rattle.hs_pool.proofs.plain.PlainPool.give.Goals as goal

pub push_back_reserved-requires : goal.push_back_reserved-requires
push_back_reserved-requires c =
    let out : IsOut (pool_of c.self.inside) c.args.held.chunk.number = subst (λ (p : Pool). IsOut p c.args.held.chunk.number) (sym c.self.view_is) c.requires.out in
    omega (arith, c.self.inside.queue.ok.0, has_room (deque_capacity c.self.inside.queue) c.self.inside.queue.items c.args.held.chunk c.self.invariant.once c.self.invariant.below out.0 out.1)

pub invariant_of-self : goal.invariant_of-self
invariant_of-self c =
    given_to c.self.inside _ c.args.held.chunk c.self.invariant (subst (λ (p : Pool). IsOut p c.args.held.chunk.number) (sym c.self.view_is) c.requires.out)
    (c.push_back_reserved.ensures.items ∙ ap (λ (x : Contents). c.self.inside.queue.items ++ x ∷ []) c.clear.ensures) c.push_back_reserved.ensures.capacity

pub returns-clause-after : goal.returns-clause-after
returns-clause-after c =
    given c.args.self.now (pool_of (record { queue = c.push_back_reserved.new.self; events = c.self.inside.events + 1 })) c.args.held.chunk c.requires.out
    (c.push_back_reserved.ensures.items ∙ ap (λ (x : Contents). c.self.inside.queue.items ++ x ∷ []) c.clear.ensures ∙ ap (λ (p : Pool). p.queue ++ with_page c.args.held.chunk None ∷ []) c.self.view_is)
    (c.push_back_reserved.ensures.capacity ∙ ap (λ (p : Pool). p.buffers) c.self.view_is)
    (ap (λ (p : Pool). p.events + 1) c.self.view_is)
