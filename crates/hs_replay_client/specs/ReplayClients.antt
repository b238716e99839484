-- What contracts see of a client: how many operations are done, its core and autotriggers, and what waits for the agent in
-- three queues. A chunk is seen with its lease, which is the empty one.
use Rattle.std.specs.Prelude.{ℕ, List}
use Rattle.hs_auto.specs.Watching.{Watch}
use Rattle.hs_base.specs.declared.told.Crumb.{Crumb}
use Rattle.hs_base.specs.declared.told.Trigger.{Trigger}
use Rattle.hs_client.specs.Core.{Core}
use Rattle.hs_words.specs.Buffers.{Buffer}

-- a buffer of a pool on one thread
abbrev pub Unleased : Type 0
Unleased = Buffer (Unit {0})

-- a client between two operations
pub record Working : Type 0 where
  pub core : Core (Unit {0})
  pub autos : List Watch
  pub chunks : List Unleased
  pub crumbs : List Crumb
  pub triggers : List Trigger

pub record PlainReplayClient : Type 0 where
  pub done : ℕ
  pub works : Working
