use Rattle.hs_compare.proofs.RingOnce.{ring_keeps_each_once}
use Rattle.hs_compare.proofs.laws.ring_keeps_each_once.Goals as goal

pub returns : goal.returns
returns c = ring_keeps_each_once
