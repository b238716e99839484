-- What contracts see of a client of a run: how many of its operations are done, and the client of the library that did them.
use Rattle.std.specs.Prelude.{ℕ}
use Rattle.hs_live.specs.Live.{PlainClient}

pub record PlainClientActor : Type 0 where
  pub done : ℕ
  pub client : PlainClient
