use Rattle.hs_verdict.proofs.Said.{whole_said}
use Rattle.hs_verdict.proofs.laws.whole_is_said_of_closed_lives.Goals as goal

pub returns : goal.returns
returns c = whole_said
