use Rattle.hs_link.proofs.Moments.{are_taken_or_lie}
use Rattle.hs_link.proofs.laws.put_items_are_taken_or_lie_in_the_ring.Goals as goal

pub returns : goal.returns
returns g c key s rule i j sender receiver = are_taken_or_lie _ key s rule i j sender receiver
