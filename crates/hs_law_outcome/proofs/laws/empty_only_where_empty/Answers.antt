use Rattle.hs_law_outcome.proofs.Buffers.{empty_only_where_empty}
use Rattle.hs_law_outcome.proofs.laws.empty_only_where_empty.Goals as goal

pub returns : goal.returns
returns c = empty_only_where_empty
