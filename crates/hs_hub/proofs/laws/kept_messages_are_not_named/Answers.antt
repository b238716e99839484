use Rattle.hs_hub.proofs.Named.{are_not_named}
use Rattle.hs_hub.proofs.laws.kept_messages_are_not_named.Goals as goal

pub returns : goal.returns
returns c = are_not_named
