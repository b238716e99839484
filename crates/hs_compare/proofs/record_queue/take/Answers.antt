use Rattle.std.proofs.Common.{[], None, refl}
use Rattle.hs_compare.proofs.Queued.{changed}
use Rattle.hs_compare.proofs.record_queue.take.Goals as goal

pub returns-in-Some-clause-rest : goal.returns-in-Some-clause-rest
returns-in-Some-clause-rest c = changed (λ q. []) c.args.queues.now.entries c.swap_remove.new.self.entries c.args.trace None c.swap_remove.ensures.updates.0 refl
