use Rattle.hs_traces.proofs.Deeds.{pages_decide}
use Rattle.hs_traces.proofs.laws.pages_decide_the_part.Goals as goal

pub returns : goal.returns
returns c = pages_decide
