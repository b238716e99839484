-- How a client's parts are seen together.
use Rattle.hs_replay_client.specs.declared.client.ReplayClient.TheInside.{Inside}
use Rattle.hs_replay_client.specs.ReplayClients.{PlainReplayClient}
use Rattle.hs_replay_client.specs.Inside.{working_in}

abbrev pub replay_client_in : Inside → PlainReplayClient
replay_client_in s = record { done = s.done; works = working_in s.doing }
