use Rattle.std.proofs.Common.{◌<◌, length, subst, sym}
use Rattle.hs_replay.proofs.Prelude.{IfOk, TakesNext, IsQueueOf}
use Rattle.hs_replay.specs.declared.queue.Queue.TheVariants as queues
use Rattle.hs_replay.proofs.node.ReplayNode.take_next.Goals as goal

pub take_chunk-requires-clause-client : goal.take_chunk-requires-clause-client
take_chunk-requires-clause-client c = subst (λ (q : queues.the_data). IsQueueOf (length c.args.self.now.players) q) c.in-Chunks.is c.requires.queue

pub returns-in-Chunks : goal.returns-in-Chunks
returns-in-Chunks c = λ W m n run amid.
    subst (λ (q : queues.the_data). IfOk c.take_chunk.result (TakesNext W m n q run c.take_chunk.new.self)) (sym c.in-Chunks.is) (c.take_chunk.ensures W m n run amid)

pub take_crumb-requires-clause-client : goal.take_crumb-requires-clause-client
take_crumb-requires-clause-client c = subst (λ (q : queues.the_data). IsQueueOf (length c.args.self.now.players) q) c.in-Crumbs.is c.requires.queue

pub returns-in-Crumbs : goal.returns-in-Crumbs
returns-in-Crumbs c = λ W m n run amid.
    subst (λ (q : queues.the_data). IfOk c.take_crumb.result (TakesNext W m n q run c.take_crumb.new.self)) (sym c.in-Crumbs.is) (c.take_crumb.ensures W m n run amid)

pub take_trigger-requires-clause-client : goal.take_trigger-requires-clause-client
take_trigger-requires-clause-client c = subst (λ (q : queues.the_data). IsQueueOf (length c.args.self.now.players) q) c.in-Triggers.is c.requires.queue

pub returns-in-Triggers : goal.returns-in-Triggers
returns-in-Triggers c = λ W m n run amid.
    subst (λ (q : queues.the_data). IfOk c.take_trigger.result (TakesNext W m n q run c.take_trigger.new.self)) (sym c.in-Triggers.is) (c.take_trigger.ensures W m n run amid)

pub returns-in-Asks : goal.returns-in-Asks
returns-in-Asks c = λ W m n run amid.
    subst (λ (q : queues.the_data). IfOk c.take_ask.result (TakesNext W m n q run c.take_ask.new.self)) (sym c.in-Asks.is) (c.take_ask.ensures W m n run amid)
