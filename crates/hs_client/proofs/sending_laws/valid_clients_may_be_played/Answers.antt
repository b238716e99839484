use Rattle.hs_client.proofs.Clients.{may_be_played}
use Rattle.hs_client.proofs.sending_laws.valid_clients_may_be_played.Goals as goal

pub returns : goal.returns
returns c = may_be_played
