use Rattle.hs_collect.proofs.Only.{collected_is_one}
use Rattle.hs_collect.proofs.laws.pages_collect_one.Goals as goal

pub returns : goal.returns
returns c = collected_is_one
