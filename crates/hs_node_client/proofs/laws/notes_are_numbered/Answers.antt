use Rattle.hs_node_client.proofs.Numbering.{numbered}
use Rattle.hs_node_client.proofs.laws.notes_are_numbered.Goals as goal

pub returns : goal.returns
returns c = numbered
