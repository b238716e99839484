use Rattle.hs_hub.proofs.SavedFirst.{saved_first}
use Rattle.hs_hub.proofs.laws.named_messages_brought_what_was_saved.Goals as goal

pub returns : goal.returns
returns c = saved_first
