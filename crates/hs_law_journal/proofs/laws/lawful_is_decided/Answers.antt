use Rattle.hs_law_journal.proofs.Decided.{lawful_is_decided}
use Rattle.hs_law_journal.proofs.laws.lawful_is_decided.Goals as goal

pub returns : goal.returns
returns c = lawful_is_decided
