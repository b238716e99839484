use Rattle.hs_client.proofs.Handing.{cores_hand_out_so_far}
use Rattle.hs_client.proofs.sending_laws.cores_hand_out_so_far.Goals as goal

pub returns : goal.returns
returns g c = cores_hand_out_so_far c.any_steps_make_the_book.ensures c.the_first_operations_send.ensures c.the_first_chunks_are_sent.ensures
