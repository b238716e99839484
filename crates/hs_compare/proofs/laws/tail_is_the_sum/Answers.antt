use Rattle.hs_compare.proofs.Summing.{tail_is_the_sum}
use Rattle.hs_compare.proofs.laws.tail_is_the_sum.Goals as goal

pub returns : goal.returns
returns c = tail_is_the_sum c.kept_is_parted.ensures.beside c.kept_is_parted.ensures.parted
