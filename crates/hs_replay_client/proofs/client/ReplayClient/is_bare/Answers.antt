use Rattle.std.proofs.Common.{subst}
use Rattle.hs_replay_client.proofs.Prelude.{PlainReplayClient, replay_client_in, TellsBare}
use Rattle.hs_replay_client.proofs.Taking.{tells_bare}
use Rattle.hs_replay_client.proofs.client.ReplayClient.is_bare.Goals as goal

pub returns : goal.returns
returns c = subst (λ (p : PlainReplayClient). TellsBare p c.is_bare.result) c.self.view_is (tells_bare (replay_client_in c.self.inside) c.is_bare.result c.is_bare.ensures)
