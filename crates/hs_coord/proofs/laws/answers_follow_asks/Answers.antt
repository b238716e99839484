use Rattle.hs_coord.proofs.OrderlyLemmas.{answered_by_answer}
use Rattle.hs_coord.proofs.laws.answers_follow_asks.Goals as goal

pub returns : goal.returns
returns c = λ group messages orderly node. answered_by_answer group node messages orderly
