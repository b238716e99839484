use Rattle.std.proofs.Common.{◌∙◌, refl, length}
use Rattle.hs_pool.proofs.Waiting.{in_order, new_after}
use Rattle.hs_pool.proofs.plain.PlainPool.make.Goals as goal

pub invariant_of-result : goal.invariant_of-result
invariant_of-result c =
    in_order _ c.requires.clear.0 (length c.args.chunks.items) (c.in_ok-queue.ensures.items ∙ c.requires.clear.1) c.in_ok-queue.ensures.room

pub returns-clause-after : goal.returns-clause-after
returns-clause-after c =
    new_after (record { queue = c.in_ok-queue.queue; events = 0 }) c.requires.clear.0 (length c.args.chunks.items) (c.in_ok-queue.ensures.items ∙ c.requires.clear.1) c.in_ok-queue.ensures.room refl
