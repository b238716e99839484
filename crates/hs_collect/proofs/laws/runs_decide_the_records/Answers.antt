use Rattle.hs_collect.proofs.Reordered.{can-same, records-same}
use Rattle.hs_collect.proofs.laws.runs_decide_the_records.Goals as goal

pub returns : goal.returns
returns c = record { added = can-same; records = records-same }
