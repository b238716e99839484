use Rattle.hs_locked.proofs.Places.{is_in_one_place}
use Rattle.hs_locked.proofs.laws.each_buffer_is_in_one_place.Goals as goal

pub returns : goal.returns
returns c plan s (f, k) buffer low = is_in_one_place plan s f k buffer low
