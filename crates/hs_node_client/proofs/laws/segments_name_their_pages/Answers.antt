use Rattle.hs_node_client.proofs.Segments.{has_its_pages}
use Rattle.hs_node_client.proofs.laws.segments_name_their_pages.Goals as goal

pub returns : goal.returns
returns c = has_its_pages c.any_steps_make_the_book.ensures c.what_was_done_was_sent.ensures
