use Rattle.hs_pool.proofs.History.{out_is_given, given_is_out}
use Rattle.hs_pool.proofs.laws.what_is_out_may_be_given.Goals as goal

pub returns : goal.returns
returns c = λ pool history number after. (out_is_given pool history number after, given_is_out pool history number after)
