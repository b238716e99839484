use Rattle.hs_collect.proofs.Reordered.{collect-same}
use Rattle.hs_collect.proofs.laws.reordered_pages_collect_the_same.Goals as goal

pub returns : goal.returns
returns c = collect-same
