use Rattle.hs_client.proofs.Order.{crumbs_in_order, triggers_in_order, chunks_in_order}
use Rattle.hs_client.proofs.sending_laws.items_are_sent_in_order.Goals as goal

pub returns-clause-crumbs : goal.returns-clause-crumbs
returns-clause-crumbs c = crumbs_in_order

pub returns-clause-triggers : goal.returns-clause-triggers
returns-clause-triggers c = triggers_in_order

pub returns-clause-chunks : goal.returns-clause-chunks
returns-clause-chunks c = chunks_in_order c.timed_pages_are_timely.ensures
