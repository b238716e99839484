-- What contracts see of a node: its pool, its clients, its agent, the asks that wait for the agent, and the messages that wait for the
-- coordinator.
use Rattle.std.specs.Prelude.{List}
use Rattle.hs_agent.specs.Keeping.{PlainAgent}
use Rattle.hs_base.specs.declared.told.Ask.{Ask}
use Rattle.hs_base.specs.declared.told.Told.{Told}
use Rattle.hs_replay_client.specs.ReplayClients.{PlainReplayClient}
use Rattle.hs_pool.specs.Pool.{Pool}

pub record PlainReplayNode : Type 0 where
  pub pool : Pool
  pub players : List PlainReplayClient
  pub agent : PlainAgent (Unit {0})
  pub asks : List Ask
  pub said : List Told
