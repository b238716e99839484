use Rattle.hs_node_client.proofs.Paging.{point_takes}
use Rattle.hs_node_client.proofs.laws.points_take_pages.Goals as goal

pub returns : goal.returns
returns c =
    point_takes c.any_steps_make_the_book.ensures c.what_was_done_was_sent.ensures
    (record { fits = c.payloads_are_cut_from_the_front.ensures.fits; cut = c.payloads_are_cut_from_the_front.ensures.cut; counted = c.pieces_are_counted.ensures })
