use Rattle.hs_claimed.proofs.Round.{comes_round}
use Rattle.hs_claimed.proofs.laws.each_claim_is_looked_at.Goals as goal

pub returns : goal.returns
returns c = record { round = comes_round }
