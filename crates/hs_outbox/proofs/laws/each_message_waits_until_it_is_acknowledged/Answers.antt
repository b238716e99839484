use Rattle.hs_outbox.proofs.Accounts.{stays}
use Rattle.hs_outbox.proofs.Handed.{accounted}
use Rattle.hs_outbox.proofs.laws.each_message_waits_until_it_is_acknowledged.Goals as goal

pub returns : goal.returns
returns c = record { accounted = accounted; stays = stays }
