use Rattle.hs_compare.proofs.Ringing.{ring_keeps_less}
use Rattle.hs_compare.proofs.laws.ring_keeps_less.Goals as goal

pub returns : goal.returns
returns c = ring_keeps_less
