use Rattle.hs_node_client.proofs.Paging.{end_takes}
use Rattle.hs_node_client.proofs.laws.ends_take_none.Goals as goal

pub returns : goal.returns
returns c = end_takes c.any_steps_make_the_book.ensures c.what_was_done_was_sent.ensures
